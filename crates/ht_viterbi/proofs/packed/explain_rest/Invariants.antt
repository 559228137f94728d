use Rattle.std.proofs.Common.{◌≡◌, vec_capacity}
use Rattle.ht_conv.specs.Puncturing.{sent_count}
use Rattle.ht_viterbi.specs.Explained.{IsExplained}
use Rattle.ht_viterbi.specs.Packed.{packed}
use Rattle.ht_viterbi.proofs.packed.explain_rest.Given as goal

abbrev pub invariant-loop-step : goal.invariant-loop-step
invariant-loop-step l = record {
  explained : IsExplained l.pattern (packed l.words (sent_count l.pattern l.steps)) l.input.items l.step l.place l.state;
  capacity : vec_capacity l.input ≡ vec_capacity l.fn.input;
}
