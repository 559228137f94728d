use Rattle.std.proofs.Common.{◌≡◌, ◌*◌, ◌<◌, ℕ, false, min, length, slice_index_or, vec_len, vec_capacity}
use Rattle.ht_viterbi.specs.Packed.{word_steps}
use Rattle.ht_clean.specs.Sparse.{input_bit}
use Rattle.ht_clean.proofs.input.packed_bits.Given as goal

abbrev pub invariant-loop-at : goal.invariant-loop-at
invariant-loop-at l = record {
  count : length l.words.items ≡ l.at;
  len : vec_len l.words ≡ l.at;
  bits : (k : ℕ) → k < min (l.at * word_steps l.fn.pattern) (length l.bits) → input_bit l.fn.pattern l.words.items k ≡ slice_index_or l.bits k false;
  capacity : vec_capacity l.words ≡ l.count;
}
