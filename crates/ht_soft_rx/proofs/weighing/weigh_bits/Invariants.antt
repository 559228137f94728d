use Rattle.std.proofs.Common.{◌≡◌, ◌+◌, ◌/◌, ◌%◌, ◌<◌, ℕ, pos, length, slice_index_or}
use Rattle.ht_rate.specs.Schemes.{bits_of}
use Rattle.ht_soft.specs.Weights.{weight_at}
use Rattle.ht_soft_rx.proofs.weighing.weigh_bits.Given as goal

-- the first ones stand there
abbrev pub invariant-loop-at : goal.invariant-loop-at
invariant-loop-at l = record {
  size : length l.weights ≡ length l.fn.weights;
  weights : (k : ℕ) → k < l.at
      → slice_index_or l.weights k (pos 0) ≡ weight_at l.modulation l.job (k / bits_of l.modulation + 1) (k % bits_of l.modulation);
}
