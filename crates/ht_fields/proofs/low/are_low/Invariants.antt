use Rattle.std.proofs.Common.{take}
use Rattle.ht_fields.specs.Tests.{AreLow}
use Rattle.ht_fields.proofs.low.are_low.Given as goal

-- none so far is above the highest
abbrev pub invariant-loop-octet : goal.invariant-loop-octet
invariant-loop-octet l = AreLow l.highest (take l.octet-index l.octets)
