use Rattle.ht_witness.proofs.Faults.{holds, no_fault}
use Rattle.ht_witness.proofs.laws.checked_has_no_fault.Goals as goal

pub returns : goal.returns
returns c = λ job certificate e. (no_fault job certificate, holds job certificate e)
