-- What the frames of a capture come to by soft decisions.
use Rattle.std.specs.Prelude.{ℕ, ℤ, List, map}
use Rattle.ht_capture.specs.declared.items.FrameHead.{FrameHead}
use Rattle.ht_capture.specs.Captures.{capture_of}
use Rattle.ht_capture_laws.specs.Items.{FrameJobs, whole_frames}
use Rattle.ht_soft.specs.declared.soft_decoded.SoftDecoded.{SoftDecoded}
use Rattle.ht_soft.specs.Frames.{soft_decoded_frame}
use Rattle.ht_soft_rx.specs.declared.soft_result.SoftResult.{SoftResult}
use Rattle.ht_soft_rx.specs.Weights.{frame_weights}

abbrev pub result_by : FrameHead → SoftDecoded → SoftResult
result_by head d = record { frame = head.frame; cost = d.cost; outcome = d.outcome }

-- the result of a frame with this head and these weights
unfoldable pub result_of : FrameHead → List ℤ → SoftResult
result_of head weights = result_by head (soft_decoded_frame head.rate head.length head.erased weights)

-- the result of a frame
abbrev pub soft_result : FrameJobs → SoftResult
soft_result f = result_of f.head (frame_weights f)

-- the results of the frames that are whole in a list of octets
unfoldable pub soft_results_of : List ℕ → List SoftResult
soft_results_of octets = map soft_result (whole_frames (capture_of octets).items)
