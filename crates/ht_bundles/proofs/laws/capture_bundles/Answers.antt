use Rattle.ht_fields.proofs.FormatLaws.{clean_ends}
use Rattle.ht_bundles.specs.Formats.{bundles}
use Rattle.ht_bundles.proofs.Ends.{bundles_can_end}
use Rattle.ht_bundles.proofs.Routes.{bundle_files}
use Rattle.ht_bundles.proofs.laws.capture_bundles.Goals as goal

pub returns : goal.returns
returns c = record { files = bundle_files; clean_can_end = clean_ends bundles bundles_can_end }
