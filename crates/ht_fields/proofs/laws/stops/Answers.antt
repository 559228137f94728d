use Rattle.ht_fields.proofs.Steps.{whole_file, trailing_octet, early_end, bad_field}
use Rattle.ht_fields.proofs.laws.stops.Goals as goal

pub returns : goal.returns
returns g c = record { whole = whole_file; trailing = trailing_octet; early = early_end; bad = bad_field }
