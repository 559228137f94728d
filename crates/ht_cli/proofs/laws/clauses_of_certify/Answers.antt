use Rattle.ht_certify.specs.Certifying.{certifying}
use Rattle.ht_cli.proofs.Certifying.{certify_done, certify_known, certify_memory}
use Rattle.ht_cli.proofs.Saying.{output_part, output_refused}
use Rattle.ht_cli.proofs.laws.clauses_of_certify.Goals as goal

pub returns-clause-done : goal.returns-clause-done
returns-clause-done c = certify_done

pub returns-clause-refused : goal.returns-clause-refused
returns-clause-refused c = output_refused certifying

pub returns-clause-part : goal.returns-clause-part
returns-clause-part c = output_part certifying

pub returns-clause-memory : goal.returns-clause-memory
returns-clause-memory c = certify_memory

pub returns-clause-known_done : goal.returns-clause-known_done
returns-clause-known_done c = λ all a b k l is run. certify_known a b k l all is run
