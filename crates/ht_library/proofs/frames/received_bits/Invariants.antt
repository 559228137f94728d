use Rattle.std.proofs.Common.{◌≡◌, ◌≤◌, length, map, take, vec_len, vec_capacity}
use Rattle.ht_viterbi.specs.Received.{known_of}
use Rattle.ht_library.specs.Codes.{known_at}
use Rattle.ht_library.proofs.frames.received_bits.Given as goal

abbrev pub invariant-loop-octet : goal.invariant-loop-octet
invariant-loop-octet l = record {
  items : map known_of l.bits.items ≡ map known_at (take l.octet-index l.octets);
  count : vec_len l.bits ≡ l.octet-index;
  room : length l.octets ≤ vec_capacity l.bits;
}
