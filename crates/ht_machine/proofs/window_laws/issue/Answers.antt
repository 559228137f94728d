use Rattle.std.proofs.Common.{List, ap}
use Rattle.ht_window.specs.declared.slot.Slot.{Slot}
use Rattle.ht_window.specs.Windows.{WindowView}
use Rattle.std.specs.Prelude.{length}
use Rattle.ht_machine.proofs.Shows.{issue_free, issue_next, issue_shown}
use Rattle.ht_machine.proofs.window_laws.issue.Goals as goal

pub returns-clause-free_slot : goal.returns-clause-free_slot
returns-clause-free_slot c = issue_free

pub returns-clause-next : goal.returns-clause-next
returns-clause-next c = issue_next

pub returns-clause-issued : goal.returns-clause-issued
returns-clause-issued c = λ machine job w on.
    let with_slots : List Slot → WindowView = λ slots. record { capacity = machine.window; front = length machine.emitted; slots = slots } in
    ap with_slots (issue_shown machine job w on)
