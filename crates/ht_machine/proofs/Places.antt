-- Each job stands in one place.
use Rattle.std.proofs.Common.{◌≡◌, ◌≢◌, ◌↔◌, ℕ, zero, suc, ◌+◌, ◌-◌, ◌<◌, ◌≤◌, List, [], ◌∷◌, length, get_or, false, refl, ap, ◌∙◌, sym, arith}
use Rattle.std.proofs.lemmas.Bool.{false≢true}
use Rattle.std.proofs.lemmas.Option.{none-some, same_Some}
use Rattle.ht_machine.proofs.Sums.{weigh_places}
use Rattle.std.specs.Prelude.{Option, None, Some, IfSome, IfNone, is_some}
use Rattle.std.specs.List.{sum_by, flat_map}
use Rattle.std.specs.Option.{option_to_list}
use Rattle.std.proofs.lemmas.List.Sums.{sum_by-append}
use Rattle.ht_metric.specs.Jobs.{JobView}
use Rattle.ht_machine.specs.declared.event.Spot.{Spot}
use Rattle.ht_machine.specs.declared.event.Spot.TheVariants.{Hand, Deque, Results, Booked, Emitted}
use Rattle.ht_machine.specs.Machine.{MachineView}
use Rattle.ht_machine.specs.Facts.{IsMachine, jobs_at, numbered, places}
use Rattle.ht_machine.proofs.Numbers.{one_of, present, beyond}
use Rattle.ht_machine.proofs.Kept.{in_hands, in_deques, in_hits, weighed}
use Rattle.ht_machine.proofs.Going.{from_zero}

-- one group, and two of them, weigh no more than all
module _ {X : Type 0} (h : JobView → ℕ) (f : X → List JobView) (d : X) (none : sum_by h (f d) ≡ 0) where
  pub group_le : (xs : List X) (a : ℕ) → sum_by h (f (get_or xs a d)) ≤ sum_by h (flat_map f xs)
  group_le [] a = omega (arith, none)
  group_le (x ∷ xs) zero = omega (arith, sum_by-append h (f x) (flat_map f xs))
  group_le (x ∷ xs) (suc a) = omega (arith, group_le xs a, sum_by-append h (f x) (flat_map f xs))

  pub groups_le : (xs : List X) (a b : ℕ) → a ≢ b → sum_by h (f (get_or xs a d)) + sum_by h (f (get_or xs b d)) ≤ sum_by h (flat_map f xs)
  groups_le [] a b other = omega (arith, none)
  groups_le (x ∷ xs) zero zero other = absurd (other refl)
  groups_le (x ∷ xs) zero (suc b) other = omega (arith, group_le xs b, sum_by-append h (f x) (flat_map f xs))
  groups_le (x ∷ xs) (suc a) zero other = omega (arith, group_le xs a, sum_by-append h (f x) (flat_map f xs))
  groups_le (x ∷ xs) (suc a) (suc b) other =
      let apart : a ≢ b = λ e. other (ap (λ (n : ℕ). suc n) e) in
      omega (arith, groups_le xs a b apart, sum_by-append h (f x) (flat_map f xs))

-- all places together
abbrev all_of : MachineView → ℕ → ℕ
all_of c n = in_hands (one_of n) c.hands
    + (in_deques (one_of n) c.deques + (in_hits (one_of n) c.results + (in_hits (one_of n) c.booked + in_hits (one_of n) c.emitted)))

hand_le : (c : MachineView) (n a : ℕ) → numbered n (jobs_at c (Hand a)) ≤ in_hands (one_of n) c.hands
hand_le c n a = group_le (one_of n) option_to_list None refl c.hands a

deque_le : (c : MachineView) (n a : ℕ) → numbered n (jobs_at c (Deque a)) ≤ in_deques (one_of n) c.deques
deque_le c n a = group_le (one_of n) (λ (jobs : List JobView). jobs) [] refl c.deques a

alone : (c : MachineView) (n : ℕ) (spot : Spot) → numbered n (jobs_at c spot) ≤ all_of c n
alone c n (Hand a) = omega (arith, hand_le c n a)
alone c n (Deque a) = omega (arith, deque_le c n a)
alone c n Results = omega arith
alone c n Booked = omega arith
alone c n Emitted = omega arith

two : (c : MachineView) (n : ℕ) (spot other : Spot) → other ≢ spot → numbered n (jobs_at c spot) + numbered n (jobs_at c other) ≤ all_of c n
two c n (Hand a) (Hand b) apart = let e : a ≢ b = λ e. apart (ap (λ (i : ℕ). Hand i) (sym e)) in
    omega (arith, groups_le (one_of n) option_to_list None refl c.hands a b e)
two c n (Hand a) (Deque b) apart = omega (arith, hand_le c n a, deque_le c n b)
two c n (Hand a) Results apart = omega (arith, hand_le c n a)
two c n (Hand a) Booked apart = omega (arith, hand_le c n a)
two c n (Hand a) Emitted apart = omega (arith, hand_le c n a)
two c n (Deque a) (Hand b) apart = omega (arith, deque_le c n a, hand_le c n b)
two c n (Deque a) (Deque b) apart = let e : a ≢ b = λ e. apart (ap (λ (i : ℕ). Deque i) (sym e)) in
    omega (arith, groups_le (one_of n) (λ (jobs : List JobView). jobs) [] refl c.deques a b e)
two c n (Deque a) Results apart = omega (arith, deque_le c n a)
two c n (Deque a) Booked apart = omega (arith, deque_le c n a)
two c n (Deque a) Emitted apart = omega (arith, deque_le c n a)
two c n Results (Hand b) apart = omega (arith, hand_le c n b)
two c n Results (Deque b) apart = omega (arith, deque_le c n b)
two c n Results Results apart = absurd (apart refl)
two c n Results Booked apart = omega arith
two c n Results Emitted apart = omega arith
two c n Booked (Hand b) apart = omega (arith, hand_le c n b)
two c n Booked (Deque b) apart = omega (arith, deque_le c n b)
two c n Booked Results apart = omega arith
two c n Booked Booked apart = absurd (apart refl)
two c n Booked Emitted apart = omega arith
two c n Emitted (Hand b) apart = omega (arith, hand_le c n b)
two c n Emitted (Deque b) apart = omega (arith, deque_le c n b)
two c n Emitted Results apart = omega arith
two c n Emitted Booked apart = omega arith
two c n Emitted Emitted apart = absurd (apart refl)

-- all places together have an issued number once, and no other number
at_most_one_from : (c : MachineView) → IsMachine c → (n left : ℕ) → length c.issued - n ≡ left → all_of c n ≤ 1
at_most_one_from c w n zero e = let none = beyond n 0 c.issued (from_zero c w) (omega (arith, e)) in omega (arith, weighed c w.once (one_of n), none)
at_most_one_from c w n (suc left) e = let one = present n 0 n c.issued (from_zero c w) (omega arith) (omega (arith, e)) in
    omega (arith, weighed c w.once (one_of n), one)

nowhere_from : (c : MachineView) → IsMachine c → (n : ℕ) → all_of c n ≡ 0 → (left : ℕ) → length c.issued - n ≡ left → length c.issued ≤ n
nowhere_from c w n none zero e = omega (arith, e)
nowhere_from c w n none (suc left) e = let one = present n 0 n c.issued (from_zero c w) (omega arith) (omega (arith, e)) in
    absurd (omega (arith, weighed c w.once (one_of n), one, none))

somewhere_from : (c : MachineView) → IsMachine c → (n : ℕ) → 0 < all_of c n → (left : ℕ) → length c.issued - n ≡ left → n < length c.issued
somewhere_from c w n some zero e = let none = beyond n 0 c.issued (from_zero c w) (omega (arith, e)) in
    absurd (omega (arith, weighed c w.once (one_of n), none, some))
somewhere_from c w n some (suc left) e = omega (arith, e)

at_most_one : (c : MachineView) → IsMachine c → (n : ℕ) → all_of c n ≤ 1
at_most_one c w n = at_most_one_from c w n (length c.issued - n) refl

pub nowhere : (c : MachineView) → IsMachine c → (n : ℕ) → all_of c n ≡ 0 → length c.issued ≤ n
nowhere c w n none = nowhere_from c w n none (length c.issued - n) refl

pub somewhere : (c : MachineView) → IsMachine c → (n : ℕ) → 0 < all_of c n → n < length c.issued
somewhere c w n some = somewhere_from c w n some (length c.issued - n) refl

-- a place that has a number has it once, and no other place has it
pub one_place : (c : MachineView) → IsMachine c → (n : ℕ) (spot : Spot) → 0 < numbered n (jobs_at c spot)
    → (n < length c.issued) × (numbered n (jobs_at c spot) ≡ 1) × ((other : Spot) → other ≢ spot → numbered n (jobs_at c other) ≡ 0)
one_place c w n spot some =
    let one = at_most_one c w n in
    let here = alone c n spot in (
      somewhere c w n (omega (arith, some, here)),
      omega (arith, some, here, one),
      λ other apart. let both = two c n spot other apart in
          omega (arith, some, both, one),
    )

-- a place that was found is the place
pub is_place : (c : MachineView) → IsMachine c → (n : ℕ) (found : Option Spot)
    → IfSome found (λ spot. 0 < numbered n (jobs_at c spot)) → IfNone found (numbered n (places c) ≡ 0)
    → (is_some found ≡ false ↔ (length c.issued ≤ n))
    × (IfSome found (λ spot. numbered n (jobs_at c spot) ≡ 1)
    × ((spot other : Spot) → found ≡ Some spot → other ≢ spot → numbered n (jobs_at c other) ≡ 0))
is_place c w n None some none =
    let few = nowhere c w n (omega (arith, weigh_places (one_of n) c, none)) in
    ((λ e. few, λ e. refl), (tt, λ spot other e apart. absurd (none-some spot e)))
is_place c w n (Some spot) some none =
    let p = one_place c w n spot some in
    let lt = p.0 in (
      (λ e. absurd (false≢true (sym e)), λ ge. absurd (omega (arith, lt, ge))),
      (p.1, λ it other e apart. p.2 other (λ same. apart (same ∙ same_Some spot it e))),
    )
