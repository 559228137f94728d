use Rattle.ht_witness.proofs.Trusting.{checked_near}
use Rattle.ht_witness.proofs.laws.checked_is_near.Goals as goal

pub returns-clause-near : goal.returns-clause-near
returns-clause-near c = λ job certificate is checked. (checked_near job certificate is checked).0
