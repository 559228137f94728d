use Rattle.ht_round.proofs.Passed.{passed_results, passed_text}
use Rattle.ht_round.proofs.laws.passed_comes_back.Goals as goal

pub returns-clause-results : goal.returns-clause-results
returns-clause-results c = passed_results

pub returns-clause-text : goal.returns-clause-text
returns-clause-text c = passed_text
