use Rattle.std.proofs.Common.{◌≡◌, ◌*◌, map, vec_capacity}
use Rattle.ht_viterbi.specs.Explained.{IsExplained}
use Rattle.ht_viterbi.specs.Received.{known_of}
use Rattle.ht_viterbi.proofs.clean.explain_all.Given as goal

abbrev pub invariant-loop-turn : goal.invariant-loop-turn
invariant-loop-turn l = record {
  explained : IsExplained l.fn.pattern (map known_of l.received) l.input.items (l.turn * l.len) l.reached.place l.reached.state;
  capacity : vec_capacity l.input ≡ vec_capacity l.fn.input;
}
