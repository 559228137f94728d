use Rattle.std.proofs.Common.{◌≡◌, ◌+◌, ◌*◌, vec_capacity, length}
use Rattle.ht_conv.specs.Puncturing.{sent_count}
use Rattle.ht_viterbi.specs.Explained.{IsExplained}
use Rattle.ht_viterbi.specs.Packed.{packed, turn_of, turn_places, word_steps}
use Rattle.ht_viterbi.proofs.packed.explain_word.Given as goal

abbrev pub invariant-loop-turn : goal.invariant-loop-turn
invariant-loop-turn l = record {
  explained : IsExplained l.pattern (packed l.words (sent_count l.pattern l.steps)) l.input.items
      (l.at * word_steps l.pattern + l.turn * length (turn_of l.pattern)) (60 * l.at + l.turn * turn_places l.pattern) l.state;
  capacity : vec_capacity l.input ≡ vec_capacity l.fn.input;
}
