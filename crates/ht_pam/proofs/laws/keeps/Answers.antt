use Rattle.ht_pam.proofs.ZigzagLemmas.{same_times}
use Rattle.ht_pam.proofs.laws.keeps.Goals as goal

pub returns : goal.returns
returns c = λ cost xs x. same_times cost x xs
