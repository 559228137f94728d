use Rattle.std.proofs.Common.{◌≡◌, ◌+◌, ◌++◌, ◌∙◌, ℕ, List, drop, map, ap, sym, arith}
use Rattle.std.specs.Prelude.{length, Option, is_some}
use Rattle.std.specs.Option.{option_to_list}
use Rattle.ht_metric.specs.Jobs.{JobView}
use Rattle.ht_metric.specs.declared.found.Found.{Found}
use Rattle.ht_machine.specs.Machine.{hit_of, without}
use Rattle.ht_window.specs.declared.slot.Slot.{Slot}
use Rattle.ht_window.specs.Windows.{WindowView, front_hit}
use Rattle.ht_machine.specs.Shown.{slot_of, window_of}
use Rattle.ht_machine.proofs.Shows.{front_is, some_parts, emit_long, emit_shown}
use Rattle.ht_machine.proofs.window_laws.emit.Goals as goal

pub returns-clause-enabled : goal.returns-clause-enabled
returns-clause-enabled c = λ machine w.
    let hit = hit_of (length machine.emitted) machine.booked in
    let e : is_some hit ≡ is_some (front_hit (window_of machine).slots) =
    sym (some_parts hit) ∙ ap (λ (o : Option (JobView × Found)). is_some o) (front_is machine w) in
    (λ on. sym e ∙ on, λ some. e ∙ some)

pub returns-clause-hit : goal.returns-clause-hit
returns-clause-hit c = front_is

pub returns-clause-emitted : goal.returns-clause-emitted
returns-clause-emitted c = λ machine w on.
    let at : ℕ → ℕ → WindowView =
    λ n k. record { capacity = machine.window; front = n; slots = map (slot_of (without (length machine.emitted) machine.booked)) (drop k machine.issued) } in
    let with_slots : List Slot → WindowView = λ slots. record { capacity = machine.window; front = length machine.emitted + 1; slots = slots } in
    let long = emit_long machine on in
    let next : length (machine.emitted ++ option_to_list (hit_of (length machine.emitted) machine.booked)) ≡ length machine.emitted + 1 = omega (arith, long) in
    ap (λ (n : ℕ). at n (length (machine.emitted ++ option_to_list (hit_of (length machine.emitted) machine.booked)))) next
    ∙ ap (λ (k : ℕ). at (length machine.emitted + 1) k) long
    ∙ ap with_slots (emit_shown machine w on)
