use Rattle.ht_fields.proofs.FormatLaws.{prefix_free}
use Rattle.ht_cert.specs.Formats.{certificates}
use Rattle.ht_cert.proofs.laws.no_prefix.Goals as goal

pub returns : goal.returns
returns c = prefix_free certificates
