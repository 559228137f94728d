use Rattle.ht_bits.proofs.Octets.{octet_bits-from}
use Rattle.std.proofs.Common.{arith}
use Rattle.ht_bits.proofs.convert.bits_of_octet.Goals as goal

pub returns : goal.returns
returns c = octet_bits-from c.loop-place.bit-items c.args.octet (omega arith) (λ k lt. c.loop-place.invariant k (omega arith))
