-- The bits of the octets so far.
use Rattle.std.proofs.Common.{◌≡◌, take}
use Rattle.ht_bits.specs.Bits.{bits_of}
use Rattle.ht_bits.proofs.convert.octets_to_bits.Given as goal

abbrev pub invariant-loop-octet : goal.invariant-loop-octet
invariant-loop-octet l = l.bits.items ≡ bits_of (take l.octet-index l.octets)
