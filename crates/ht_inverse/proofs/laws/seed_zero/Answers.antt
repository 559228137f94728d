use Rattle.ht_inverse.proofs.Returned.{seed_zero}
use Rattle.ht_inverse.proofs.laws.seed_zero.Goals as goal

pub returns : goal.returns
returns c = seed_zero
