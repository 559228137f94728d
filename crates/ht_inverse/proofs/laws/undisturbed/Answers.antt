use Rattle.ht_inverse.proofs.Undisturbed.{undisturbed}
use Rattle.ht_inverse.proofs.laws.undisturbed.Goals as goal

pub returns : goal.returns
returns c = undisturbed
