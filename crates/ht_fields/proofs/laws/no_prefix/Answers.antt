use Rattle.ht_fields.proofs.Answered.{file_prefix, file_items}
use Rattle.ht_fields.proofs.laws.no_prefix.Goals as goal

pub returns : goal.returns
returns g c = record { prefix = file_prefix; equal = file_items }
