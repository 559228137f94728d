use Rattle.std.proofs.Common.{rules}
use Rattle.ht_machine.specs.Machine.{IsEnabled}
use Rattle.ht_machine.proofs.Kept.{kept}
use Rattle.ht_machine.proofs.Going.{can_go_on}
use Rattle.ht_machine.proofs.moves.step.Goals as goal

pub returns-then-not-enabled-clause-going : goal.returns-then-not-enabled-clause-going
returns-then-not-enabled-clause-going c = can_go_on _ c.enabled.ensures.machine

pub returns-in-Ok-clause-machine : goal.returns-in-Ok-clause-machine
returns-in-Ok-clause-machine c =
    let on : IsEnabled c.args.machine.now c.args.event = search rules in
    rw c.in-Ok.ensures.made (kept c.args.machine.now c.args.event c.enabled.ensures.machine on)

pub returns-in-Ok-clause-going : goal.returns-in-Ok-clause-going
returns-in-Ok-clause-going c =
    let on : IsEnabled c.args.machine.now c.args.event = search rules in
    rw c.in-Ok.ensures.made (can_go_on _ (kept c.args.machine.now c.args.event c.enabled.ensures.machine on))

pub returns-in-Err-clause-going : goal.returns-in-Err-clause-going
returns-in-Err-clause-going c = rw c.in-Err.ensures.unchanged (can_go_on _ c.enabled.ensures.machine)
