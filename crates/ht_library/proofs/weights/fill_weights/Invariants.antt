use Rattle.std.proofs.Common.{◌≡◌, ◌*◌, length}
use Rattle.ht_library.specs.Weighed.{AreWeights, bits_each}
use Rattle.ht_library.proofs.weights.fill_weights.Given as goal

abbrev pub invariant-loop-k : goal.invariant-loop-k
invariant-loop-k l = record {
  size : length l.weights ≡ length l.fn.weights;
  done : AreWeights (l.k * bits_each l.rate) l.rate l.channels l.received l.weights;
}
