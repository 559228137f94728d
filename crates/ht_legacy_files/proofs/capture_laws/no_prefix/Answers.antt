use Rattle.ht_fields.proofs.FormatLaws.{prefix_free}
use Rattle.ht_legacy_files.specs.CaptureFormats.{captures}
use Rattle.ht_legacy_files.proofs.capture_laws.no_prefix.Goals as goal

pub returns : goal.returns
returns c = prefix_free captures
