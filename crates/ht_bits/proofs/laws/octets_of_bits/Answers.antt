use Rattle.ht_bits.proofs.Octets.{octets_of-bits_of}
use Rattle.ht_bits.proofs.laws.octets_of_bits.Goals as goal

pub returns : goal.returns
returns c = λ octets small. octets_of-bits_of octets (λ k lt. small k 0 lt)
