use Rattle.ht_cert.specs.Formats.{certificates}
use Rattle.ht_certify.specs.Checks.{check_lines, check_text}
use Rattle.ht_cli.proofs.Saying.{text_broken_off, text_done, text_known, text_known_refused, text_memory, text_part, text_refused}
use Rattle.ht_cli.proofs.laws.clauses_of_check.Goals as goal

pub returns-clause-done : goal.returns-clause-done
returns-clause-done c = text_done certificates check_text check_lines

pub returns-clause-refused : goal.returns-clause-refused
returns-clause-refused c = text_refused certificates check_text check_lines

pub returns-clause-broken_off : goal.returns-clause-broken_off
returns-clause-broken_off c = text_broken_off certificates check_text check_lines

pub returns-clause-memory : goal.returns-clause-memory
returns-clause-memory c = text_memory certificates check_text check_lines

pub returns-clause-part : goal.returns-clause-part
returns-clause-part c = text_part certificates check_text check_lines

pub returns-clause-known_done : goal.returns-clause-known_done
returns-clause-known_done c = λ all a b k l is run. text_known certificates check_text check_lines a b k l all is run

pub returns-clause-known_refused : goal.returns-clause-known_refused
returns-clause-known_refused c = λ all a b k l is run. text_known_refused certificates check_text check_lines a b k l all is run
