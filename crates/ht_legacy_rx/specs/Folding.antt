-- The results of frames from jobs that come one after another: a frame's result comes with its last job.
use Rattle.std.specs.Prelude.{ℕ, ◌≤◌, List, [], max, min}
use Rattle.ht_feed.specs.Items.{Headed}
use Rattle.ht_frames.specs.Frames.{fold_of, results_by}
use Rattle.ht_results.specs.declared.frame_result.FrameResult.{FrameResult}
use Rattle.ht_results.specs.Plans.{Fold}
use Rattle.ht_legacy_blocks.specs.declared.head.LegacyFrameHead.{LegacyFrameHead}
use Rattle.ht_legacy_blocks.specs.Frames.{no_head}
use Rattle.ht_legacy_rx.specs.Results.{LegacySoFar, legacy_plan, result_of}

-- a frame has 1 to 4095 octets
pub record IsWithinLimits (head : LegacyFrameHead) : Type 0 where
  pub some : 1 ≤ head.length
  pub few : head.length ≤ 4095

abbrev pub with_octets : LegacyFrameHead → LegacyFrameHead
with_octets head = record head { length = max 1 (min 4095 head.length) }

abbrev pub legacy_fold : Fold (Headed LegacyFrameHead) LegacyFrameHead ℕ FrameResult
legacy_fold = fold_of legacy_plan with_octets result_of

-- the results that jobs give, one after another, where this frame is under way
abbrev pub legacy_results_from : LegacySoFar → List (Headed LegacyFrameHead) → List FrameResult
legacy_results_from f jobs = results_by legacy_plan with_octets result_of f jobs

-- no frame is under way
abbrev pub no_frame : LegacySoFar
no_frame = record { head = no_head; data_sum = 0; pilot_sum = 0; labels = []; left = 0 }
