use Rattle.ht_sim.specs.Converting.{sending}
use Rattle.ht_cli.proofs.Saying.{output_done, output_part, output_refused}
use Rattle.ht_cli.proofs.laws.clauses_of_tx.Goals as goal

pub returns-clause-done : goal.returns-clause-done
returns-clause-done c = λ a b k l run. output_done sending a b k l run

pub returns-clause-refused : goal.returns-clause-refused
returns-clause-refused c = λ a b k l run. output_refused sending a b k l run

pub returns-clause-part : goal.returns-clause-part
returns-clause-part c = λ a b k l run. output_part sending a b k l run
