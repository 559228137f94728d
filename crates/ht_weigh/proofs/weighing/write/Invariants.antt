use Rattle.std.proofs.Common.{◌≡◌, ◌*◌, ◌+◌, ◌<◌, ℕ, pos, length, slice_index, slice_index_or}
use Rattle.ht_soft.specs.Weights.{weight_of}
use Rattle.ht_weigh.proofs.weighing.write.Given as goal

abbrev pub invariant-loop-j : goal.invariant-loop-j
invariant-loop-j l = record {
  size : length l.weights ≡ length l.fn.weights;
  weights : (i : ℕ) → i < l.j → slice_index_or l.weights i (pos 0) ≡ weight_of (slice_index l.leasts (2 * i)) (slice_index l.leasts (2 * i + 1));
}
