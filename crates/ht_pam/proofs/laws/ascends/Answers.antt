use Rattle.ht_pam.proofs.ZigzagLemmas.{ascending}
use Rattle.ht_pam.proofs.laws.ascends.Goals as goal

pub returns : goal.returns
returns c = λ cost xs. ascending cost xs
