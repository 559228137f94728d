use Rattle.ht_fields.proofs.FormatLaws.{prefix_free}
use Rattle.ht_capture.specs.Fields.{captures}
use Rattle.ht_capture.proofs.laws.no_prefix.Goals as goal

pub returns : goal.returns
returns c = prefix_free captures
