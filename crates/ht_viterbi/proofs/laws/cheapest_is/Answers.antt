use Rattle.ht_viterbi.proofs.Enumerating.{cheapest_first, cheapest_is}
use Rattle.ht_viterbi.proofs.laws.cheapest_is.Goals as goal

pub returns-clause-answer : goal.returns-clause-answer
returns-clause-answer g c = cheapest_is g.P.CodedPlace.cost

pub returns-clause-some : goal.returns-clause-some
returns-clause-some g c = cheapest_first g.P.CodedPlace.cost
