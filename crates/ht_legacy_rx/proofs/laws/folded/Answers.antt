use Rattle.ht_legacy_rx.proofs.Folded.{folds}
use Rattle.ht_legacy_rx.proofs.laws.folded.Goals as goal

pub returns-clause-results : goal.returns-clause-results
returns-clause-results c = folds
