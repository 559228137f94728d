use Rattle.ht_crew.proofs.Whole.{takes_all}
use Rattle.ht_crew.proofs.laws.takes_all.Goals as goal

pub returns : goal.returns
returns c = takes_all
