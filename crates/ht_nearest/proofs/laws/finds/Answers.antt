use Rattle.ht_nearest.proofs.Bests as bests
use Rattle.ht_nearest.proofs.laws.finds.Goals as goal

pub returns : goal.returns
returns g c = λ is_member cost before candidates x order all near. bests.finds is_member cost before order candidates x all near
