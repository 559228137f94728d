use Rattle.std.proofs.Common.{◌≡◌, ◌+◌, ◌*◌, vec_len, vec_capacity}
use Rattle.ht_viterbi.specs.Packed.{word_steps}
use Rattle.ht_clean.specs.Sparse.{unpacked}
use Rattle.ht_clean.proofs.input.push_word.Given as goal

abbrev pub invariant-loop-step : goal.invariant-loop-step
invariant-loop-step l = record {
  items : l.bits.items ≡ unpacked l.fn.pattern l.words (l.at * word_steps l.fn.pattern + l.step);
  count : vec_len l.bits ≡ l.at * word_steps l.fn.pattern + l.step;
  capacity : vec_capacity l.bits ≡ vec_capacity l.fn.bits;
}
