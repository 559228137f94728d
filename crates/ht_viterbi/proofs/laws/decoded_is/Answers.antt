use Rattle.ht_viterbi.proofs.Enumerating.{decoded_is, decoded_near}
use Rattle.ht_viterbi.proofs.laws.decoded_is.Goals as goal

pub returns-clause-answer : goal.returns-clause-answer
returns-clause-answer c = decoded_is

pub returns-clause-some : goal.returns-clause-some
returns-clause-some c = decoded_near
