use Rattle.ht_results.proofs.Folded.{folds, headed_is}
use Rattle.ht_results.proofs.laws.folded.Goals as goal

pub returns-clause-jobs : goal.returns-clause-jobs
returns-clause-jobs c = headed_is

pub returns-clause-results : goal.returns-clause-results
returns-clause-results c = folds
