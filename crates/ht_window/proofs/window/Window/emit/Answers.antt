use Rattle.std.proofs.Common.{◌<◌, length, rules}
use Rattle.ht_window.proofs.Slots.{emitted}
use Rattle.ht_window.proofs.window.Window.emit.Goals as goal

pub invariant_of-self-2 : goal.invariant_of-self-2
invariant_of-self-2 c =
    let slots = c.self.inside.slots in
    let some : 0 < length slots.items = search rules in
    rw c.pop_front.ensures.items (emitted slots.capacity c.self.inside.front slots.items c.self.invariant some)

pub returns-clause-window : goal.returns-clause-window
returns-clause-window c =
    let slots = c.self.inside.slots in
    let some : 0 < length slots.items = search rules in
    rw c.pop_front.ensures.items (emitted slots.capacity c.self.inside.front slots.items c.self.invariant some)
