use Rattle.ht_legacy_sim.specs.Passing.{passing}
use Rattle.ht_cli.proofs.Saying.{output_done, output_known, output_memory, output_part, output_refused}
use Rattle.ht_cli.proofs.laws.clauses_of_lchannel.Goals as goal

pub returns-clause-done : goal.returns-clause-done
returns-clause-done c = λ seed noise a b k l run. output_done (passing seed noise) a b k l run

pub returns-clause-refused : goal.returns-clause-refused
returns-clause-refused c = λ seed noise a b k l run. output_refused (passing seed noise) a b k l run

pub returns-clause-part : goal.returns-clause-part
returns-clause-part c = λ seed noise a b k l run. output_part (passing seed noise) a b k l run

pub returns-clause-memory : goal.returns-clause-memory
returns-clause-memory c = λ seed noise a b k l run. output_memory (passing seed noise) a b k l run

pub returns-clause-known_done : goal.returns-clause-known_done
returns-clause-known_done c = λ seed noise all a b k l is run. output_known (passing seed noise) a b k l all is run
