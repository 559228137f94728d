use Rattle.ht_many.specs.Bundles.{receiving}
use Rattle.ht_cli.proofs.Saying.{output_done, output_known, output_memory, output_part, output_refused}
use Rattle.ht_cli.proofs.laws.clauses_of_many.Goals as goal

pub returns-clause-done : goal.returns-clause-done
returns-clause-done c = λ workers window a b k l run. output_done receiving a b k l run

pub returns-clause-refused : goal.returns-clause-refused
returns-clause-refused c = λ workers window a b k l run. output_refused receiving a b k l run

pub returns-clause-part : goal.returns-clause-part
returns-clause-part c = λ workers window a b k l run. output_part receiving a b k l run

pub returns-clause-memory : goal.returns-clause-memory
returns-clause-memory c = λ workers window a b k l run. output_memory receiving a b k l run

pub returns-clause-known_done : goal.returns-clause-known_done
returns-clause-known_done c = λ workers window all a b k l is run. output_known receiving a b k l all is run
