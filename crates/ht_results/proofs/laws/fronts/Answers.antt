use Rattle.ht_results.proofs.Folded.{front_folds, rest_gives}
use Rattle.ht_results.proofs.laws.fronts.Goals as goal

pub returns-clause-within : goal.returns-clause-within
returns-clause-within c = front_folds

pub returns-clause-first : goal.returns-clause-first
returns-clause-first c = rest_gives
