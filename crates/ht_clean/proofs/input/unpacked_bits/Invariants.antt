use Rattle.std.proofs.Common.{◌≡◌, ◌≤◌, ◌*◌, vec_capacity}
use Rattle.ht_viterbi.specs.Packed.{word_steps}
use Rattle.ht_clean.specs.Sparse.{unpacked}
use Rattle.ht_clean.proofs.input.unpacked_bits.Given as goal

abbrev pub invariant-loop-at : goal.invariant-loop-at
invariant-loop-at l = record {
  items : l.bits.items ≡ unpacked l.pattern l.words (l.at * word_steps l.pattern);
  room : l.steps ≤ vec_capacity l.bits;
}
