use Rattle.std.proofs.Common.{◌≡◌, ◌*◌, length, vec_len, vec_capacity}
use Rattle.ht_inverse.specs.Shares.{HasMarks}
use Rattle.ht_inverse.proofs.words.packed_words.Given as goal

abbrev pub invariant-loop-at : goal.invariant-loop-at
invariant-loop-at l = record {
  count : length l.words.items ≡ l.at;
  len : vec_len l.words ≡ l.at;
  marks : HasMarks l.words.items l.octets (60 * l.at);
  capacity : vec_capacity l.words ≡ l.count;
}
