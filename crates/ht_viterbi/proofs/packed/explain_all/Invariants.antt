use Rattle.std.proofs.Common.{◌≡◌, ◌*◌, vec_capacity}
use Rattle.ht_conv.specs.Puncturing.{sent_count}
use Rattle.ht_viterbi.specs.Explained.{IsExplained}
use Rattle.ht_viterbi.specs.Packed.{packed, word_steps}
use Rattle.ht_viterbi.proofs.packed.explain_all.Given as goal

abbrev pub invariant-loop-at : goal.invariant-loop-at
invariant-loop-at l = record {
  explained : IsExplained l.pattern (packed l.words (sent_count l.pattern l.steps)) l.input.items
      (l.at * word_steps l.pattern) (60 * l.at) l.state;
  capacity : vec_capacity l.input ≡ vec_capacity l.fn.input;
}
