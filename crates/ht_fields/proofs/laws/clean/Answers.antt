use Rattle.ht_fields.proofs.Answered.{clean_meaning}
use Rattle.ht_fields.proofs.laws.clean.Goals as goal

pub returns : goal.returns
returns g c = clean_meaning
