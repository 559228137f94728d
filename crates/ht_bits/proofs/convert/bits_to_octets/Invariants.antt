-- The octets so far, and those of the bits that are left, are those of all bits.
use Rattle.std.proofs.Common.{◌≡◌, ◌*◌, ◌++◌, drop}
use Rattle.ht_bits.specs.Bits.{octets_of}
use Rattle.ht_bits.proofs.convert.bits_to_octets.Given as goal

abbrev pub invariant-loop-m : goal.invariant-loop-m
invariant-loop-m l = l.octets.items ++ octets_of (drop (8 * l.m) l.bits) ≡ octets_of l.bits
