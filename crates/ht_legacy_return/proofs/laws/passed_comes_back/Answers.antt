use Rattle.ht_legacy_return.proofs.Passed.{passed_results, passed_text, simulated_exact}
use Rattle.ht_legacy_return.proofs.laws.passed_comes_back.Goals as goal

pub returns-clause-exact : goal.returns-clause-exact
returns-clause-exact c = simulated_exact

pub returns-clause-results : goal.returns-clause-results
returns-clause-results c = passed_results

pub returns-clause-text : goal.returns-clause-text
returns-clause-text c = passed_text
