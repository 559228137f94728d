use Rattle.ht_legacy_files.proofs.CaptureRoutes.{captures_written}
use Rattle.ht_legacy_files.proofs.capture_laws.written.Goals as goal

pub returns : goal.returns
returns c = captures_written
