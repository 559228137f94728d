use Rattle.std.proofs.Common.{◌≡◌, ◌≤◌, length, map, take, vec_len, vec_capacity}
use Rattle.ht_viterbi.specs.Received.{known_of}
use Rattle.ht_viterbi.proofs.decoder.received_bits.Given as goal

abbrev pub invariant-loop-place : goal.invariant-loop-place
invariant-loop-place l = record {
  items : map known_of l.bits.items ≡ take l.place-index l.places;
  count : vec_len l.bits ≡ l.place-index;
  room : length l.places ≤ vec_capacity l.bits;
}
