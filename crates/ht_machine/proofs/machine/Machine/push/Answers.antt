use Rattle.std.proofs.Common.{◌≡◌, [], ◌++◌, get_or, List, length, ap, ◌∙◌, ◌<◌, sym, subst, rules}
use Rattle.std.proofs.lemmas.List.{get_or_default}
use Rattle.ht_metric.specs.Jobs.{JobView}
use Rattle.std.specs.Prelude.{Option, None}
use Rattle.std.specs.Option.{option_to_list}
use Rattle.ht_machine.specs.declared.event.Event.TheVariants.{Push}
use Rattle.ht_machine.specs.Machine.{MachineView, IsEnabled}
use Rattle.ht_machine.proofs.Kept.{kept}
use Rattle.ht_machine.proofs.machine.Machine.push.Goals as goal

pub invariant_of-self-2 : goal.invariant_of-self-2
invariant_of-self-2 c =
    let inside = c.self.inside in
    let on = subst (λ (w : MachineView). IsEnabled w (Push c.args.actor)) (sym c.self.view_is) c.requires in
    let actor : c.from-actor.result ≡ c.args.actor = search rules in
    let at = c.from-actor.result in
    let deques : at < length inside.deques.items = search rules in
    let hands : at < length inside.hands.items = search rules in
    let was : c.index_mut.result.now ≡ get_or inside.deques.items at [] = c.index_mut.ensures.value ∙ get_or_default inside.deques.items at _ [] deques in
    let held : c.index.result.now ≡ get_or inside.hands.items at None = c.index.ensures ∙ get_or_default inside.hands.items at _ None hands in
    let pushed : c.push.new.self ≡ get_or inside.deques.items at [] ++ option_to_list (get_or inside.hands.items at None) =
    c.in_ok-push.ensures.ok ∙ ap (λ (d : List JobView). d ++ option_to_list c.index.result.now) was
    ∙ ap (λ (o : Option JobView). get_or inside.deques.items at [] ++ option_to_list o) held in
    rw (pushed, actor) (kept _ (Push c.args.actor) c.self.invariant on)
