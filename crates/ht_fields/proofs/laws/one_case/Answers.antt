use Rattle.ht_fields.proofs.Texts.{some_case, only_case}
use Rattle.ht_fields.proofs.laws.one_case.Goals as goal

pub returns : goal.returns
returns g c = record { some = some_case; only = only_case }
