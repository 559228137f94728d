use Rattle.std.proofs.Common.{◌≤◌, [], take, ap, arith}
use Rattle.ht_fields.proofs.Joins.{gives_more}
use Rattle.ht_rate.specs.declared.rates.Rate.{Rate}
use Rattle.ht_rate.specs.Rates.{carriers_of}
use Rattle.ht_capture.proofs.Bounds.{jobs_few}
use Rattle.ht_capture.proofs.Turns.{symbol_made}
use Rattle.ht_fields.proofs.Halting.{gives_halts}
use Rattle.ht_capture.proofs.parts.frame.Goals as goal

pub returns-in-Err-clause-told : goal.returns-in-Err-clause-told
returns-in-Err-clause-told g c = c.in-Err.ensures.told

pub returns-in-Err-carriers-clause-told : goal.returns-in-Err-carriers-clause-told
returns-in-Err-carriers-clause-told g c = gives_halts _ _ _ _ c.in-Ok.ensures.told c.in-Ok.ensures.later c.in-Err-carriers.ensures.told

pub returns-clause-told : goal.returns-clause-told
returns-clause-told g c =
    let gathered = c.in-Ok-carriers.gathered in
    symbol_made _ c.args.turn.now c.carriers.new.head gathered.count c.symbols.result gathered.at
    (take gathered.count c.carriers.new.present) _ _ c.symbols.ensures.value
    (gives_more _ _ _ [] _ c.in-Ok.ensures.told c.in-Ok-carriers.ensures.told)

pub returns-clause-jobs : goal.returns-clause-jobs
returns-clause-jobs g c =
    let head = c.carriers.new.head in
    let count = c.in-Ok-carriers.gathered.count in
    let few : count ≤ carriers_of head.rate = omega (arith, c.in-Ok-carriers.ensures.count, ap (λ (r : Rate). carriers_of r) c.carriers.ensures.same.1) in
    jobs_few head.rate head.length c.symbols.result count (omega arith) c.symbols.ensures.high c.symbols.ensures.least few
