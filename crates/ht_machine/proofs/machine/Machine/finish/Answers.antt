use Rattle.std.proofs.Common.{◌≡◌, [], ◌∷◌, ◌++◌, sym, subst, rules}
use Rattle.ht_machine.specs.declared.event.Event.TheVariants.{Finish}
use Rattle.ht_machine.specs.Machine.{MachineView, IsEnabled}
use Rattle.ht_machine.proofs.Kept.{kept}
use Rattle.ht_machine.proofs.machine.Machine.finish.Goals as goal

pub invariant_of-self-2 : goal.invariant_of-self-2
invariant_of-self-2 c =
    let on = subst (λ (w : MachineView). IsEnabled w (Finish c.args.actor c.args.hit)) (sym c.self.view_is) c.requires in
    let results : c.push.new.self.items ≡ c.self.inside.results.items ++ c.args.hit ∷ [] = search rules in
    let actor : c.from.result ≡ c.args.actor = search rules in
    rw (results, actor) (kept _ (Finish c.args.actor c.args.hit) c.self.invariant on)
