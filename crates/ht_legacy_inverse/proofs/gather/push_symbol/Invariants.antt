-- The coded bits so far.
use Rattle.std.proofs.Common.{◌≡◌, ◌+◌, ◌*◌, map, vec_capacity, vec_len}
use Rattle.std.specs.List.{range_with_len}
use Rattle.ht_clause18.specs.Rates.{coded_bits_of}
use Rattle.ht_legacy_inverse.specs.Received.{received_at, told_by}
use Rattle.ht_legacy_inverse.proofs.gather.push_symbol.Given as goal

abbrev pub invariant-loop-k : goal.invariant-loop-k
invariant-loop-k l = record {
  items : map told_by l.bits.items ≡ map (received_at l.rate l.labels) (range_with_len 0 (l.symbol * coded_bits_of l.rate + l.k));
  len : vec_len l.bits ≡ vec_len l.fn.bits + l.k;
  capacity : vec_capacity l.bits ≡ vec_capacity l.fn.bits;
}
