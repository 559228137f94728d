-- The coded bits of whole symbols so far, as long as more are left.
use Rattle.std.proofs.Common.{◌≡◌, ◌+◌, ◌-◌, ◌*◌, ◌≤◌, map, vec_capacity, vec_len}
use Rattle.std.specs.List.{range_with_len}
use Rattle.ht_clause18.specs.Rates.{coded_bits_of}
use Rattle.ht_legacy_inverse.specs.Received.{received_at, told_by}
use Rattle.ht_legacy_inverse.proofs.gather.received.Given as goal

abbrev pub invariant-loop-left : goal.invariant-loop-left
invariant-loop-left l = record {
  items : map told_by l.bits.items ≡ map (received_at l.rate l.labels) (range_with_len 0 (l.count - l.left));
  len : vec_len l.bits + l.left ≡ l.count;
  capacity : vec_capacity l.bits ≡ l.count;
  before : 1 ≤ l.left → l.symbol * coded_bits_of l.rate + l.left ≡ l.count;
}

abbrev pub decreases-loop-left : goal.decreases-loop-left
decreases-loop-left l = l.left
