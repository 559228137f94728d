use Rattle.std.proofs.Common.{◌≡◌, ◌≤◌, length, map, vec_len, vec_capacity}
use Rattle.ht_viterbi.specs.Packed.{packed}
use Rattle.ht_viterbi.specs.Received.{known_of}
use Rattle.ht_viterbi.proofs.decoder.unpacked.Given as goal

abbrev pub invariant-loop-place : goal.invariant-loop-place
invariant-loop-place l = record {
  items : map known_of l.bits.items ≡ packed l.words l.place;
  count : vec_len l.bits ≡ l.place;
  room : l.count ≤ vec_capacity l.bits;
}
