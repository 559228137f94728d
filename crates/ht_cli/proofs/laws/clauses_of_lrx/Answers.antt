use Rattle.ht_legacy_files.specs.CaptureFormats.{captures}
use Rattle.ht_legacy_rx.specs.Texts.{legacy_lines_of, legacy_text}
use Rattle.ht_cli.proofs.Saying.{text_broken_off, text_done, text_known, text_known_refused, text_memory, text_part, text_refused}
use Rattle.ht_cli.proofs.laws.clauses_of_lrx.Goals as goal

pub returns-clause-done : goal.returns-clause-done
returns-clause-done c = λ workers window a b k l run. text_done captures legacy_text legacy_lines_of a b k l run

pub returns-clause-refused : goal.returns-clause-refused
returns-clause-refused c = λ workers window a b k l run. text_refused captures legacy_text legacy_lines_of a b k l run

pub returns-clause-broken_off : goal.returns-clause-broken_off
returns-clause-broken_off c = λ workers window a b k l run. text_broken_off captures legacy_text legacy_lines_of a b k l run

pub returns-clause-memory : goal.returns-clause-memory
returns-clause-memory c = λ workers window a b k l run. text_memory captures legacy_text legacy_lines_of a b k l run

pub returns-clause-part : goal.returns-clause-part
returns-clause-part c = λ workers window a b k l run. text_part captures legacy_text legacy_lines_of a b k l run

pub returns-clause-known_done : goal.returns-clause-known_done
returns-clause-known_done c = λ workers window all a b k l is run. text_known captures legacy_text legacy_lines_of a b k l all is run

pub returns-clause-known_refused : goal.returns-clause-known_refused
returns-clause-known_refused c = λ workers window all a b k l is run. text_known_refused captures legacy_text legacy_lines_of a b k l all is run
