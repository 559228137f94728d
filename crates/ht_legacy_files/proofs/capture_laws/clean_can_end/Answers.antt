use Rattle.ht_fields.proofs.FormatLaws.{clean_ends}
use Rattle.ht_legacy_files.specs.CaptureFormats.{captures}
use Rattle.ht_legacy_files.proofs.CaptureEnds.{captures_can_end}
use Rattle.ht_legacy_files.proofs.capture_laws.clean_can_end.Goals as goal

pub returns : goal.returns
returns c = clean_ends captures captures_can_end
