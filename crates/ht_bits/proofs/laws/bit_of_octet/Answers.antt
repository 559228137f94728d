use Rattle.ht_bits.proofs.Octets.{bits_of-at, length-bits_of}
use Rattle.ht_bits.proofs.laws.bit_of_octet.Goals as goal

pub returns-clause-place : goal.returns-clause-place
returns-clause-place c = bits_of-at

pub returns-clause-length : goal.returns-clause-length
returns-clause-length c = length-bits_of
