-- Heads of one rate say the same of their jobs.
use Rattle.std.proofs.Common.{◌≡◌, ap}
use Rattle.ht_rate.specs.declared.rates.Rate.{Rate}
use Rattle.ht_rate.specs.Rates.{data_carriers_of}
use Rattle.ht_capture.specs.declared.items.FrameHead.{FrameHead}
use Rattle.ht_frames.specs.Tallies.{IsAlike}
use Rattle.ht_results.specs.Captured.{kind_of}
use Rattle.ht_soft_rx.specs.Jobs.{weight_plan}
use Rattle.ht_soft_rx.specs.Weights.{job_weights, weights_of_job}

pub alike : (head other : FrameHead) → head.rate ≡ other.rate → IsAlike weight_plan head other
alike head other same = record {
  kind = ap (λ (r : Rate). λ carrier. kind_of r carrier) same;
  values = ap (λ (r : Rate). λ job. job_weights (record head { rate = r }) job) same;
  data_carriers = ap data_carriers_of same;
  width = ap (λ (r : Rate). weights_of_job (record head { rate = r })) same;
}
