use Rattle.ht_feed.proofs.Finishing.{told_input, told_lacking}
use Rattle.ht_feed.proofs.telling.tell_alone.Goals as goal

pub returns-in_err-in_flight : goal.returns-in_err-in_flight
returns-in_err-in_flight g c = told_lacking c.from_residual.ensures.0 c.from_residual.ensures.1

pub returns : goal.returns
returns g c =
    let e = c.run_in_flight-driven.ensures in
    told_input (rw c.in_ok-in_flight.ensures at e.runs) c.requires.rests (g.met.A.Consumer.none_due c.run_in_flight-driven.new.consumer) c.end_of.ensures e.same
