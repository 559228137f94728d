use Rattle.ht_round.proofs.Round.{results_back, rewritten, text_back, written}
use Rattle.ht_round.proofs.laws.exact_comes_back.Goals as goal

pub returns-clause-results : goal.returns-clause-results
returns-clause-results c = λ version frames sent captured all. results_back version frames sent captured all.0 all.1 all.2 all.3 all.4

pub returns-clause-text : goal.returns-clause-text
returns-clause-text c = λ version frames sent captured all. text_back version frames sent captured all.0 all.1 all.2 all.3 all.4

pub returns-clause-written : goal.returns-clause-written
returns-clause-written c = written

pub returns-clause-rewritten : goal.returns-clause-rewritten
returns-clause-rewritten c = λ version other into frames sent captured others all again.
    rewritten version other into frames sent captured others all.0 again.0 all.1 all.2 all.3 all.4 again.1 again.2 again.3 again.4
