use Rattle.std.proofs.Common.{◌≡◌, ◌+◌, map, vec_capacity}
use Rattle.ht_viterbi.specs.Explained.{IsExplained}
use Rattle.ht_viterbi.specs.Received.{known_of}
use Rattle.ht_viterbi.proofs.clean.explain_turn.Given as goal

abbrev pub invariant-loop-phase : goal.invariant-loop-phase
invariant-loop-phase l = record {
  explained : IsExplained l.fn.pattern (map known_of l.received) l.input.items (l.first + l.phase) l.place l.state;
  capacity : vec_capacity l.input ≡ vec_capacity l.fn.input;
}
