use Rattle.ht_machine.specs.Machine.{after_all, empty}
use Rattle.ht_machine.proofs.Going.{can_go_on, run_kept, empty_machine}
use Rattle.ht_machine.proofs.laws.after_legal_events.Goals as goal

pub returns-clause-machine : goal.returns-clause-machine
returns-clause-machine c = λ workers window events some few wide narrow legal.
    run_kept events (empty workers window) (empty_machine workers window some few wide narrow) legal

pub returns-clause-going : goal.returns-clause-going
returns-clause-going c = λ workers window events some few wide narrow legal.
    can_go_on (after_all (empty workers window) events) (run_kept events (empty workers window) (empty_machine workers window some few wide narrow) legal)
