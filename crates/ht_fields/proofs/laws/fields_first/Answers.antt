use Rattle.ht_fields.proofs.Steps.{good_fields, good_field}
use Rattle.ht_fields.proofs.laws.fields_first.Goals as goal

pub returns : goal.returns
returns g c = record { many = good_fields; one = good_field }
