use Rattle.std.proofs.Common.{◌≡◌}
use Rattle.ht_window.specs.Windows.{first_unbooked}
use Rattle.ht_window.proofs.window.Window.first_unbooked.Given as goal

-- the first of the slots that are left is the first of all
abbrev pub invariant-loop-slot : goal.invariant-loop-slot
invariant-loop-slot l =
    (goal.iterator-loop-slot).can_next l.slot-iterator ×
    (goal.iterator-loop-slot).is_finite l.slot-iterator ×
    (first_unbooked l.slot-iterator ≡ first_unbooked l.self.slots)
