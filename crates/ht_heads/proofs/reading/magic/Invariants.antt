use Rattle.std.proofs.Common.{take}
use Rattle.ht_io.specs.Devices.{Takes, IsLater}
use Rattle.ht_heads.proofs.reading.magic.Given as goal

-- the first octets of the magic were read
abbrev pub invariant-loop-at : goal.invariant-loop-at
invariant-loop-at g l = record {
  octets : Takes (g.S.Source.shown l.fn.source) (g.S.Source.shown l.source) (take l.at l.wanted);
  later : IsLater (g.S.Source.shown l.fn.source) (g.S.Source.shown l.source);
}
