use Rattle.ht_results.specs.Folding.{label_fold}
use Rattle.ht_results.proofs.Counted.{given_from-append, under_way-append}
use Rattle.ht_results.proofs.laws.in_parts.Goals as goal

pub returns-clause-results : goal.returns-clause-results
returns-clause-results c = given_from-append label_fold

pub returns-clause-state : goal.returns-clause-state
returns-clause-state c = under_way-append label_fold
