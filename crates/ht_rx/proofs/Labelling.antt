-- Heads of one rate say the same of their jobs, and what labels are decoded to is the result.
use Rattle.std.proofs.Common.{◌≡◌, ℕ, map, ap}
use Rattle.ht_rate.specs.declared.rates.Rate.{Rate}
use Rattle.ht_rate.specs.Rates.{data_carriers_of, modulation_of, streams_of}
use Rattle.ht_metric.specs.Jobs.{JobView, near}
use Rattle.ht_capture.specs.declared.items.FrameHead.{FrameHead}
use Rattle.ht_inverse.specs.declared.decoded.Decoded.{Decoded}
use Rattle.ht_inverse.specs.Decoding.{decoded_frame}
use Rattle.ht_results.specs.Folding.{FrameSoFar, kind_of, label_at, label_plan, result_by, result_of}
use Rattle.ht_frames.specs.Tallies.{IsAlike}

pub alike : (head other : FrameHead) → head.rate ≡ other.rate → IsAlike label_plan head other
alike head other same = record {
  kind = ap (λ (r : Rate). λ (c : ℕ). kind_of r c) same;
  values = ap (λ (r : Rate). λ (job : JobView). map (label_at (modulation_of r)) (near job).vector) same;
  data_carriers = ap data_carriers_of same;
  width = ap streams_of same;
}

pub result_is : (f : FrameSoFar) (d : Decoded) → d ≡ decoded_frame f.head.rate f.head.length f.head.erased f.labels → result_by f d ≡ result_of f
unfolding result_of
result_is f d is = ap (λ (x : Decoded). result_by f x) is
