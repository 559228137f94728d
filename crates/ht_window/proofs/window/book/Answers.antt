use Rattle.std.proofs.Common.{◌≡◌, List, refl, ap, rules}
use Rattle.std.specs.Prelude.{slice_get, Some, is_some, true}
use Rattle.circular_buffer.specs.Buffer.{buffer}
use Rattle.ht_window.specs.declared.slot.Slot.{Slot}
use Rattle.ht_window.proofs.Slots.{put_same}
use Rattle.ht_window.proofs.Accepts.{has_found}
use Rattle.ht_window.proofs.window.book.Goals as goal

pub returns-then-not-same-clause-refused : goal.returns-then-not-same-clause-refused
returns-then-not-same-clause-refused c =
    let slots = c.args.slots.now in
    let here : slice_get slots.items c.args.at ≡ Some c.in-Some.slot.now = search rules in
    λ _. ap (λ (xs : List Slot). buffer xs slots.capacity) (put_same slots.items c.args.at c.in-Some.slot.now here)

pub returns-then-is_some-clause-twice : goal.returns-then-is_some-clause-twice
returns-then-is_some-clause-twice c =
    let slots = c.args.slots.now in
    let here : slice_get slots.items c.args.at ≡ Some c.in-Some.slot.now = search rules in
    let slot = c.in-Some.slot.now in
    let same : slot.job ≡ c.args.job.now = search rules in
    let some : is_some slot.found ≡ true = search rules in
    (λ _. has_found slots.items c.args.at slot c.args.job.now here same some, λ _. refl)

pub returns-then-is_some-clause-refused : goal.returns-then-is_some-clause-refused
returns-then-is_some-clause-refused c =
    let slots = c.args.slots.now in
    let here : slice_get slots.items c.args.at ≡ Some c.in-Some.slot.now = search rules in
    λ _. ap (λ (xs : List Slot). buffer xs slots.capacity) (put_same slots.items c.args.at c.in-Some.slot.now here)
