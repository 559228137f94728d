-- The number that the bits so far give.
use Rattle.std.proofs.Common.{◌≡◌, take}
use Rattle.ht_bits.specs.Bits.{number_of}
use Rattle.ht_bits.proofs.convert.octet_of.Given as goal

abbrev pub invariant-loop-place : goal.invariant-loop-place
invariant-loop-place l = l.octet ≡ number_of (take l.place l.bits)
