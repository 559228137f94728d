use Rattle.std.proofs.Common.{◌≡◌, ◌≤◌, ◌<◌, ◌↔◌, ℕ, true, false, slice_index}
use Rattle.std.specs.Int.{bit_at}
use Rattle.ht_viterbi.specs.Trellis.{way, chosen, lesser}
use Rattle.ht_viterbi.proofs.plain.step.Given as goal

abbrev pub invariant-loop-state : goal.invariant-loop-state
invariant-loop-state l = record {
  costs : (k : ℕ) → k < l.state → slice_index l.into k
      ≡ lesser l.free (way (slice_index l.costs) l.branches k false) (way (slice_index l.costs) l.branches k true);
  choices : (k : ℕ) → k < l.state
      → (bit_at l.choices k ≡ 1) ↔ (chosen l.free (way (slice_index l.costs) l.branches k false) (way (slice_index l.costs) l.branches k true) ≡ true);
  later : (k : ℕ) → l.state ≤ k → bit_at l.choices k ≡ 0;
}
