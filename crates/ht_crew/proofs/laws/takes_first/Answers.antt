use Rattle.ht_crew.proofs.Whole.{takes_first}
use Rattle.ht_crew.proofs.laws.takes_first.Goals as goal

pub returns : goal.returns
returns c = takes_first
