use Rattle.ht_fields.proofs.FormatLaws.{clean_ends}
use Rattle.ht_cert.specs.Formats.{certificates}
use Rattle.ht_cert.proofs.Ends.{certificates_can_end}
use Rattle.ht_cert.proofs.laws.clean_can_end.Goals as goal

pub returns : goal.returns
returns c = clean_ends certificates certificates_can_end
