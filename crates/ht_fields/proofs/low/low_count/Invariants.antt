use Rattle.std.proofs.Common.{◌≤◌, ◌-◌, length, take}
use Rattle.ht_fields.specs.Tests.{AreLow}
use Rattle.ht_fields.proofs.low.low_count.Given as goal

-- none so far is above
abbrev pub invariant-loop-count : goal.invariant-loop-count
invariant-loop-count l = record {
  within : l.count ≤ length l.octets;
  low : AreLow l.last (take l.count l.octets);
}

abbrev pub decreases-loop-count : goal.decreases-loop-count
decreases-loop-count l = length l.octets - l.count
