-- What is kept of the frames of one capture: the one under way, and those that are whole and whose results are still to
-- be put.
use Rattle.std.specs.Prelude.{ℕ, List}
use Rattle.ht_capture.specs.declared.items.FrameHead.{FrameHead}
use Rattle.ht_feed.specs.Items.{Headed}
use Rattle.ht_frames.specs.Frames.{results_by}
use Rattle.ht_frames.specs.Gathering.{booked_behind}
use Rattle.ht_results.specs.declared.frame_result.FrameResult.{FrameResult}
use Rattle.ht_results.specs.Folding.{FrameSoFar, label_plan, result_of, with_octets}
use Rattle.ht_results.specs.Texts.{result_line}

-- what one lane keeps of the frames of its capture
pub record KeptFrames : Type 0 where
  pub under_way : FrameSoFar
  pub whole : List FrameSoFar

abbrev pub kept_frames : FrameSoFar → List FrameSoFar → KeptFrames
kept_frames under_way whole = record { under_way = under_way; whole = whole }

-- what is booked in all if the hits of exactly these jobs still come
abbrev pub booked_left : {P : Type 0} → (FrameResult → List P) → KeptFrames → List (Headed FrameHead) → List P
booked_left booked kept = booked_behind result_of booked kept.whole (results_by label_plan with_octets result_of kept.under_way)

-- the lines that are put then
abbrev pub lines_left : KeptFrames → List (Headed FrameHead) → List ℕ
lines_left = booked_left result_line
