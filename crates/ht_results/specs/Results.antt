-- What the frames of a capture come to.
use Rattle.std.specs.Prelude.{ℕ, List, map, Bool, not}
use Rattle.std.specs.List.{filter}
use Rattle.ht_rate.specs.declared.rates.Rate.{Rate}
use Rattle.ht_rate.specs.Carriers.{carrier_of}
use Rattle.ht_metric.specs.Jobs.{JobView}
use Rattle.ht_capture.specs.Captures.{capture_of}
use Rattle.ht_capture_laws.specs.Items.{FrameJobs, whole_frames}
use Rattle.ht_inverse.specs.declared.decoded.Decoded.{Decoded}
use Rattle.ht_inverse.specs.Decoding.{decoded_frame}
use Rattle.ht_results.specs.declared.frame_result.FrameResult.{FrameResult}
use Rattle.ht_results.specs.Labels.{frame_labels}
pub use Rattle.ht_results.specs.Plans.{distances, is_data}

-- the job stands on a data subcarrier; else it stands on a pilot
abbrev pub on_data : Rate → JobView → Bool
on_data rate job = is_data (carrier_of rate job.place.carrier)

abbrev pub data_sum_of : FrameJobs → ℕ
data_sum_of f = distances (filter (on_data f.head.rate) f.jobs)

abbrev pub pilot_sum_of : FrameJobs → ℕ
pilot_sum_of f = distances (filter (λ job. not (on_data f.head.rate job)) f.jobs)

-- what the labels of a frame are decoded to
abbrev pub decoded_of : FrameJobs → Decoded
decoded_of f = decoded_frame f.head.rate f.head.length f.head.erased (frame_labels f)

-- the result of a frame
unfoldable pub frame_result : FrameJobs → FrameResult
frame_result f = record {
  frame = f.head.frame;
  data_sum = data_sum_of f;
  pilot_sum = pilot_sum_of f;
  code = (decoded_of f).code;
  outcome = (decoded_of f).outcome;
}

-- the results of the frames that are whole in a list of octets
unfoldable pub results_of : List ℕ → List FrameResult
results_of octets = map frame_result (whole_frames (capture_of octets).items)
