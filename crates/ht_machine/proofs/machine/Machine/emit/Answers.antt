use Rattle.std.proofs.Common.{◌≡◌, length, sym, subst, rules}
use Rattle.ht_machine.specs.declared.event.Event.TheVariants.{Emit}
use Rattle.ht_machine.specs.Machine.{MachineView, IsEnabled}
use Rattle.ht_machine.proofs.Kept.{kept_emit}
use Rattle.ht_machine.proofs.machine.Machine.emit.Goals as goal

pub invariant_of-self-2 : goal.invariant_of-self-2
invariant_of-self-2 c =
    let on = subst (λ (w : MachineView). IsEnabled w Emit) (sym c.self.view_is) c.requires in
    let number : c.len-number.result ≡ length c.self.inside.emitted.items = search rules in
    rw (c.in_ok-hand_over.ensures.out, c.in_ok-hand_over.ensures.put, number) (kept_emit _ c.self.invariant on)
