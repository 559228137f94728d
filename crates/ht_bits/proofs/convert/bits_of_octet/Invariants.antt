-- The bits so far are the octet's.
use Rattle.std.proofs.Common.{◌≡◌, ℕ, ◌<◌, false, get_or}
use Rattle.ht_bits.specs.Bits.{bit}
use Rattle.ht_bits.proofs.convert.bits_of_octet.Given as goal

abbrev pub invariant-loop-place : goal.invariant-loop-place
invariant-loop-place l = (k : ℕ) → k < l.place → get_or l.bit-items k false ≡ bit l.octet k
