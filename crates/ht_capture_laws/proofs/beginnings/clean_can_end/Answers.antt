use Rattle.ht_fields.proofs.FormatLaws.{clean_ends}
use Rattle.ht_capture.specs.Fields.{captures}
use Rattle.ht_capture_laws.proofs.Ends.{can_end}
use Rattle.ht_capture_laws.proofs.beginnings.clean_can_end.Goals as goal

pub returns : goal.returns
returns c = clean_ends captures can_end
