use Rattle.std.proofs.Common.{◌≡◌, ◌+◌, ◌<◌, ◌≤◌, ◌∷◌, ◌++◌, [], List, length, arith, ap, ◌∙◌, sym, subst}
use Rattle.std.proofs.lemmas.List.{length-append}
use Rattle.circular_buffer.specs.Buffer.{buffer}
use Rattle.ht_window.specs.declared.slot.Slot.{Slot}
use Rattle.ht_window.specs.Windows.{WindowView, unbooked}
use Rattle.ht_window.proofs.Slots.{issued, keep_all}
use Rattle.ht_window.proofs.window.Window.issue.Goals as goal

pub invariant_of-self : goal.invariant_of-self
invariant_of-self c =
    let slots = c.self.inside.slots in
    let all = slots.items ++ unbooked c.args.job ∷ [] in
    let free = subst (λ (w : WindowView). length w.slots < w.capacity) (sym c.self.view_is) c.requires.free_slot in
    let next = subst (λ (w : WindowView). c.args.job.number ≡ w.front + length w.slots) (sym c.self.view_is) c.requires.next in
    let few : length all ≤ slots.capacity = omega (arith, free, length-append slots.items (unbooked c.args.job ∷ [])) in
    let pushed : c.push_back.new.self ≡ buffer all slots.capacity =
    c.push_back.ensures.items ∙ ap (λ (xs : List Slot). buffer xs slots.capacity) (keep_all slots.capacity all few) in
    rw pushed (issued slots.capacity c.self.inside.front slots.items c.args.job c.self.invariant free next c.requires.last)
