use Rattle.ht_fields.proofs.Answered.{bad_stays, trailing_stays}
use Rattle.ht_fields.proofs.laws.fault_stays.Goals as goal

pub returns : goal.returns
returns g c = record { bad = bad_stays; trailing = trailing_stays }
