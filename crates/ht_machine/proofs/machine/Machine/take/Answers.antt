use Rattle.std.proofs.Common.{◌≡◌, ◌<◌, [], drop, get_or, List, length, ap, ◌∙◌, sym, subst, rules}
use Rattle.std.proofs.lemmas.List.{get_or_default}
use Rattle.ht_metric.specs.Jobs.{JobView}
use Rattle.std.specs.Prelude.{None, slice_get}
use Rattle.ht_machine.specs.Machine.{MachineView, hand}
use Rattle.ht_machine.proofs.Kept.{kept_taken}
use Rattle.ht_machine.proofs.machine.Machine.take.Goals as goal

pub invariant_of-self : goal.invariant_of-self
invariant_of-self c =
    let inside = c.self.inside in
    let here = subst (λ (w : MachineView). c.args.actor < w.workers) (sym c.self.view_is) c.requires.actor in
    let there = subst (λ (w : MachineView). c.args.owner < w.workers) (sym c.self.view_is) c.requires.owner in
    let none = subst (λ (w : MachineView). hand w c.args.actor ≡ None) (sym c.self.view_is) c.requires.none in
    let owner : c.from.result ≡ c.args.owner = search rules in
    let actor : c.from-2.result ≡ c.args.actor = search rules in
    let at = c.from.result in
    let deques : at < length inside.deques.items = search rules in
    let was : c.index_mut.result.now ≡ get_or inside.deques.items at [] = c.index_mut.ensures.value ∙ get_or_default inside.deques.items at _ [] deques in
    let front : c.pop.result ≡ slice_get (get_or inside.deques.items at []) 0 = c.pop.ensures.front ∙ ap (λ (d : List JobView). slice_get d 0) was in
    let rest : c.pop.new.self ≡ drop 1 (get_or inside.deques.items at []) = c.pop.ensures.rest ∙ ap (λ (d : List JobView). drop 1 d) was in
    rw (front, rest, owner, actor) (kept_taken _ c.args.actor c.args.owner c.self.invariant here there none)
