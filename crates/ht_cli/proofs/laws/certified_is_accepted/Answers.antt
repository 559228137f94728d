use Rattle.std.proofs.lemmas.List.Elements.{All-from_recursion}
use Rattle.ht_capture.specs.Captures.{capture_of}
use Rattle.ht_certify.specs.Certifying.{certified}
use Rattle.ht_certify.proofs.Accepting.{Holds}
use Rattle.ht_cli.proofs.Certified.{HasJob, IsNearest, all_checked, all_near, are_records, have_jobs, is_accepted, is_file}
use Rattle.ht_cli.proofs.Certifying.{run_accepted, run_not_refused}
use Rattle.ht_cli.proofs.laws.certified_is_accepted.Goals as goal

pub returns-clause-jobs : goal.returns-clause-jobs
returns-clause-jobs c = λ octets. All-from_recursion HasJob (certified octets) (have_jobs octets)

pub returns-clause-holds : goal.returns-clause-holds
returns-clause-holds c = λ octets. All-from_recursion Holds (certified octets) (all_checked octets)

pub returns-clause-near : goal.returns-clause-near
returns-clause-near c = λ octets. All-from_recursion IsNearest (certified octets) (all_near octets)

pub returns-clause-records : goal.returns-clause-records
returns-clause-records c = λ octets bytes capture. are_records octets (capture_of octets).items bytes capture

pub returns-clause-file : goal.returns-clause-file
returns-clause-file c = is_file

pub returns-clause-accepted : goal.returns-clause-accepted
returns-clause-accepted c = is_accepted

pub returns-clause-runs : goal.returns-clause-runs
returns-clause-runs c = λ all output a b k l e f g h first.
    run_accepted all output a b k l e f g h first.0 first.1 first.2 first.3 first.4

pub returns-clause-never_refused : goal.returns-clause-never_refused
returns-clause-never_refused c = λ all output a b k l e f g h first.
    run_not_refused all output a b k l e f g h first.0 first.1 first.2 first.3 first.4
