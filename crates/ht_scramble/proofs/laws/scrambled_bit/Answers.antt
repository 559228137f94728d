use Rattle.ht_scramble.proofs.Lists.{scrambled-at, length-scrambled_from}
use Rattle.ht_scramble.proofs.laws.scrambled_bit.Goals as goal

pub returns-clause-place : goal.returns-clause-place
returns-clause-place c = scrambled-at

pub returns-clause-length : goal.returns-clause-length
returns-clause-length c = λ seed bits. length-scrambled_from seed 0 bits
