use Rattle.std.proofs.Common.{◌≡◌, ◌≤◌, ◌<◌, ◌++◌, List, length, drop, vec_len, vec_capacity}
use Rattle.ht_viterbi.specs.Trellis.{StepCosts, first_from, AreChoices}
use Rattle.ht_viterbi.proofs.walk.forwards.Given as goal

abbrev pub invariant-loop-word : goal.invariant-loop-word
invariant-loop-word l = record {
  state : l.state < 64;
  input : (pairs : List StepCosts) → length pairs ≡ length l.choices → AreChoices pairs l.choices
      → (l.input.items ++ first_from (drop l.word-index pairs) l.state ≡ first_from pairs 0);
  count : vec_len l.input ≡ l.word-index;
  room : length l.choices ≤ vec_capacity l.input;
}
