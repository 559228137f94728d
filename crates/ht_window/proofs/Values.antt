-- Worked values.
use Rattle.std.proofs.Common.{◌≡◌, [], ◌∷◌, refl}
use Rattle.std.specs.Prelude.{Some, None, slice_set}
use Rattle.ht_metric.specs.Jobs.{JobView, near}
use Rattle.ht_window.specs.Windows.{unbooked, booked, jobs, front_hit, first_unbooked}

-- the answer to the second job came
waits : (a b c : JobView) → front_hit (unbooked a ∷ booked b ∷ unbooked c ∷ []) ≡ None
waits a b c = refl

first : (a b c : JobView) → first_unbooked (unbooked a ∷ booked b ∷ unbooked c ∷ []) ≡ Some a
first a b c = refl

-- then that to the first
gives : (a b c : JobView) → front_hit (booked a ∷ booked b ∷ unbooked c ∷ []) ≡ Some (a, near a)
gives a b c = refl

next : (a b c : JobView) → first_unbooked (booked a ∷ booked b ∷ unbooked c ∷ []) ≡ Some c
next a b c = refl

all_there : (a b : JobView) → first_unbooked (booked a ∷ booked b ∷ []) ≡ None
all_there a b = refl

empty : first_unbooked [] ≡ None
empty = refl

no_slot : front_hit [] ≡ None
no_slot = refl

in_order : (a b c : JobView) → jobs (unbooked a ∷ booked b ∷ unbooked c ∷ []) ≡ a ∷ b ∷ c ∷ []
in_order a b c = refl

booked_in_place : (a b c : JobView) → slice_set (unbooked a ∷ unbooked b ∷ unbooked c ∷ []) 1 (booked b) ≡ unbooked a ∷ booked b ∷ unbooked c ∷ []
booked_in_place a b c = refl
