-- All weights of a job.
use Rattle.std.specs.Prelude.{◌≡◌, ◌<◌, ◌≤◌, ℕ, ◌+◌, ◌-◌, ◌*◌, ℤ, pos, List, length, slice_index_or}
use Rattle.ht_rate.specs.declared.kinds.Modulation.{Modulation}
use Rattle.ht_rate.specs.Schemes.{bits_of}
use Rattle.ht_metric.specs.Jobs.{JobView}
use Rattle.ht_soft.specs.Weights.{weight_at}

-- a weight for each label bit, in the order stream, bit: the difference of the least distances of the bit's halves, cut
pub record AreWeights (m : Modulation) (job : JobView) (weights : List ℤ) : Type 0 where
  pub size : length weights ≡ length job.system * bits_of m
  pub each : (stream e : ℕ) → 1 ≤ stream → stream ≤ length job.system → e < bits_of m
      → slice_index_or weights ((stream - 1) * bits_of m + e) (pos 0) ≡ weight_at m job stream e
