use Rattle.ht_bits.proofs.Octets.{bits_of-octets_of}
use Rattle.ht_bits.proofs.laws.bits_of_octets.Goals as goal

pub returns : goal.returns
returns c = bits_of-octets_of
