use Rattle.ht_fields.proofs.Answered.{met, found, file_found, clean_found}
use Rattle.ht_fields.proofs.laws.meaning_of_case.Goals as goal

pub returns : goal.returns
returns g c = record { met = met; found = found; file = file_found; clean = clean_found }
