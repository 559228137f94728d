use Rattle.ht_round.proofs.Simulated.{simulated_exact, simulated_results, simulated_text}
use Rattle.ht_round.proofs.laws.simulated_comes_back.Goals as goal

pub returns-clause-exact : goal.returns-clause-exact
returns-clause-exact c = simulated_exact

pub returns-clause-results : goal.returns-clause-results
returns-clause-results c = simulated_results

pub returns-clause-text : goal.returns-clause-text
returns-clause-text c = simulated_text
