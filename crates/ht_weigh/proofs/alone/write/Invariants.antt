use Rattle.std.proofs.Common.{◌≡◌, ◌<◌, ℕ, pos, length, slice_index_or, false, true}
use Rattle.ht_soft.specs.Weights.{weight_of}
use Rattle.ht_weigh.specs.Walks.{half_cost}
use Rattle.ht_weigh.proofs.alone.write.Given as goal

abbrev pub invariant-loop-bit : goal.invariant-loop-bit
invariant-loop-bit l = record {
  size : length l.weights ≡ length l.fn.weights;
  weights : (e : ℕ) → e < l.bit → slice_index_or l.weights e (pos 0)
      ≡ weight_of (half_cost l.fn.modulation e false 0 l.fn.left.re l.fn.left.im l.fn.left.d)
      (half_cost l.fn.modulation e true 0 l.fn.left.re l.fn.left.im l.fn.left.d);
}
