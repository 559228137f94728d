use Rattle.std.proofs.Common.{◌≡◌, ◌<◌, ℕ, length, slice_index}
use Rattle.ht_viterbi.specs.Trellis.{branch_cost}
use Rattle.ht_viterbi.proofs.branches.costs_of_pair.Given as goal

abbrev pub invariant-loop-state : goal.invariant-loop-state
invariant-loop-state l = record {
  count : length l.costs ≡ 64;
  lane : (k : ℕ) → k < l.state → slice_index l.costs k ≡ branch_cost l.step k l.bit;
}
