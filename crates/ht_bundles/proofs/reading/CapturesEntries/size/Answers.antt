use Rattle.std.proofs.Common.{List, ℕ, ap, length}
use Rattle.ht_bundles.proofs.Routes.{length_capture}
use Rattle.ht_bundles.proofs.reading.CapturesEntries.size.Goals as goal

pub returns : goal.returns
returns c = length_capture c.args.capture.now (length c.as_slice.result.now) (ap (λ (z : List ℕ). length z) c.as_slice.ensures)
