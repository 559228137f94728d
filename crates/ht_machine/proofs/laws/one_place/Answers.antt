use Rattle.ht_machine.proofs.Places.{one_place}
use Rattle.ht_machine.proofs.laws.one_place.Goals as goal

pub returns : goal.returns
returns c = λ machine number spot w some. one_place machine w number spot some
