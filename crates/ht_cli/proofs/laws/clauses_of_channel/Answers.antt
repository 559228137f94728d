use Rattle.ht_sim.specs.Passing.{passing}
use Rattle.ht_cli.proofs.Saying.{output_done, output_part, output_refused}
use Rattle.ht_cli.proofs.laws.clauses_of_channel.Goals as goal

pub returns-clause-done : goal.returns-clause-done
returns-clause-done c = λ seed noise a b k l run. output_done (passing seed noise) a b k l run

pub returns-clause-refused : goal.returns-clause-refused
returns-clause-refused c = λ seed noise a b k l run. output_refused (passing seed noise) a b k l run

pub returns-clause-part : goal.returns-clause-part
returns-clause-part c = λ seed noise a b k l run. output_part (passing seed noise) a b k l run
