-- The results of frames, from the jobs of a capture one after another, of each of which its weights are kept at once.
use Rattle.std.specs.Prelude.{ℤ, pos}
use Rattle.ht_capture.specs.declared.items.FrameHead.{FrameHead}
use Rattle.ht_results.specs.Heads.{Headed}
use Rattle.ht_results.specs.Captured.{capture_plan, with_job_by}
use Rattle.ht_results.specs.Plans.{Fold, Plan, SoFar}
use Rattle.ht_soft_rx.specs.declared.soft_result.SoftResult.{SoftResult}
use Rattle.ht_soft_rx.specs.Results.{result_of}
use Rattle.ht_soft_rx.specs.Weights.{job_weights, weights_of_job}

-- weights stand in the order symbol, data subcarrier, stream, bit
abbrev pub weight_plan : Plan FrameHead ℤ
weight_plan = capture_plan weights_of_job job_weights (pos 0)

-- what a frame with all its weights comes to
abbrev pub weights_come_to : SoFar FrameHead ℤ → SoftResult
weights_come_to f = result_of f.head f.labels

abbrev pub weight_fold : Fold Headed FrameHead ℤ SoftResult
weight_fold = record { step = with_job_by weight_plan; result = weights_come_to }
