use Rattle.ht_cli.proofs.Spelled.{finishes, refuses, breaks_off, part_put, lines_put, all_of_capture, text_of_refused}
use Rattle.ht_cli.proofs.laws.clauses_of_streaming.Goals as goal

pub returns-clause-done : goal.returns-clause-done
returns-clause-done c = finishes

pub returns-clause-refused : goal.returns-clause-refused
returns-clause-refused c = refuses

pub returns-clause-broken_off : goal.returns-clause-broken_off
returns-clause-broken_off c = breaks_off

pub returns-clause-part : goal.returns-clause-part
returns-clause-part c = part_put

pub returns-clause-memory : goal.returns-clause-memory
returns-clause-memory c = lines_put

pub returns-clause-known_done : goal.returns-clause-known_done
returns-clause-known_done c = λ lines text all a b k l known run. all_of_capture lines text a b k l all known run

pub returns-clause-known_refused : goal.returns-clause-known_refused
returns-clause-known_refused c = λ lines text all a b k l known run. text_of_refused lines text a b k l all known run
