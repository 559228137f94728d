use Rattle.std.proofs.Common.{List, ap}
use Rattle.ht_window.specs.declared.slot.Slot.{Slot}
use Rattle.ht_window.specs.Windows.{WindowView}
use Rattle.std.specs.Prelude.{length}
use Rattle.ht_machine.proofs.Shows.{accept_unbooked, accept_shown}
use Rattle.ht_machine.proofs.window_laws.accept.Goals as goal

pub returns-clause-unbooked : goal.returns-clause-unbooked
returns-clause-unbooked c = accept_unbooked

pub returns-clause-books : goal.returns-clause-books
returns-clause-books c = λ machine number hit w e.
    let with_slots : List Slot → WindowView = λ slots. record { capacity = machine.window; front = length machine.emitted; slots = slots } in
    ap with_slots (accept_shown machine number hit w e)
