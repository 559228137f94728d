use Rattle.std.proofs.Common.{◌≡◌, [], ◌∷◌, ◌++◌, sym, subst, rules}
use Rattle.ht_machine.specs.declared.event.Event.TheVariants.{Issue}
use Rattle.ht_machine.specs.Machine.{MachineView, IsEnabled}
use Rattle.ht_machine.proofs.Kept.{kept}
use Rattle.ht_machine.proofs.machine.Machine.issue.Goals as goal

pub invariant_of-self-2 : goal.invariant_of-self-2
invariant_of-self-2 c =
    let on = subst (λ (w : MachineView). IsEnabled w (Issue c.args.job)) (sym c.self.view_is) c.requires in
    let issued : c.push.new.self.items ≡ c.self.inside.issued.items ++ c.args.job ∷ [] = search rules in
    rw issued (kept _ (Issue c.args.job) c.self.invariant on)
