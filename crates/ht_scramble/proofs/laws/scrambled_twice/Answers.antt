use Rattle.ht_scramble.proofs.Lists.{scrambled_from-twice}
use Rattle.ht_scramble.proofs.laws.scrambled_twice.Goals as goal

pub returns : goal.returns
returns c = λ seed bits. scrambled_from-twice seed 0 bits
