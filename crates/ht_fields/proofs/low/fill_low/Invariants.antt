use Rattle.std.proofs.Common.{◌≤◌, ◌-◌, length, take}
use Rattle.ht_io.specs.Devices.{Takes, IsLater}
use Rattle.ht_fields.specs.Tests.{AreLow}
use Rattle.ht_fields.proofs.low.fill_low.Given as goal

-- these octets were taken, and none is above
abbrev pub invariant-loop-count : goal.invariant-loop-count
invariant-loop-count g l = record {
  within : l.count ≤ length l.into;
  taken : Takes (g.S.Source.shown l.fn.source) (g.S.Source.shown l.source) (take l.count l.into);
  low : AreLow l.last (take l.count l.into);
  later : IsLater (g.S.Source.shown l.fn.source) (g.S.Source.shown l.source);
}

abbrev pub decreases-loop-count : goal.decreases-loop-count
decreases-loop-count g l = length l.into - l.count
