use Rattle.ht_legacy_return.proofs.Round.{exact_written, results_back, text_back}
use Rattle.ht_legacy_return.proofs.laws.exact_comes_back.Goals as goal

pub returns-clause-results : goal.returns-clause-results
returns-clause-results c = results_back

pub returns-clause-text : goal.returns-clause-text
returns-clause-text c = text_back

pub returns-clause-written : goal.returns-clause-written
returns-clause-written c = exact_written
