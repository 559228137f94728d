-- One level after another.
use Rattle.std.proofs.Common.{◌≡◌, ℕ, zero, suc, ◌+◌, ◌<◌, ℤ, List, [], ◌∷◌, ◌++◌, Bool, true}
use Rattle.std.proofs.Common.{false, ◌&&◌, ◌||◌, arith, add-one, add-zero, ◌-◌, subst, ◌∙◌, ap, sym}
use Rattle.std.specs.Prelude.{◌==◌, if◌then◌else◌}
use Rattle.std.specs.Int.{bit_at}
use Rattle.std.specs.Ordering.{int_eq}
use Rattle.std.specs.List.{list_any}
use Rattle.std.proofs.Math.Bool.{or-false}
use Rattle.std.proofs.lemmas.List.Folds.{list_any-append}
use Rattle.std.proofs.lemmas.Bool.{or_left, or_right, or_from}
use Rattle.ht_pam.specs.Ladders.{Rungs, level, lowest, has}

abbrev pub among : ℤ → List ℤ → Bool
among x ys = list_any (λ y. int_eq y x) ys

one_more : (x y : ℤ) (ys : List ℤ) (b : Bool) → among x (if b then ys ++ y ∷ [] else ys) ≡ (among x ys || (b && int_eq y x))
one_more x y ys true = list_any-append (λ z. int_eq z x) ys (y ∷ []) ∙ ap (λ (t : Bool). among x ys || t) (or-false (int_eq y x))
one_more x y ys false = sym (or-false (among x ys))

-- a level is among the lowest ones with one more if it is among them or is the one more
pub lowest_more : (l : Rungs) (x : ℤ) (j : ℕ) → among x (lowest l (j + 1)) ≡ (among x (lowest l j) || (bit_at l.mask j == 1 && int_eq (level l.size j) x))
lowest_more l x j = rw add-one (one_more x (level l.size j) (lowest l j) (bit_at l.mask j == 1))

-- and stays among them
lowest_next : (l : Rungs) (x : ℤ) (j : ℕ) → among x (lowest l j) ≡ true → among x (lowest l (j + 1)) ≡ true
lowest_next l x j h = lowest_more l x j ∙ or_left (among x (lowest l j)) _ h

lowest_on : (l : Rungs) (x : ℤ) (j k : ℕ) → among x (lowest l j) ≡ true → among x (lowest l (j + k)) ≡ true
lowest_on l x j zero h = rw add-zero h
lowest_on l x j (suc k) h =
    let e : (j + k) + 1 ≡ j + suc k = omega arith in
    subst (λ (n : ℕ). among x (lowest l n) ≡ true) e (lowest_next l x (j + k) (lowest_on l x j k h))

-- a ladder has a level that stands at one of its places
pub has_at : (size mask : ℕ) (now : Rungs) (x y : ℤ) (j : ℕ) (found : Bool) → record { size = size; mask = mask } ≡ now → y ≡ x → j < size
    → found ≡ (bit_at mask j == 1 && int_eq (level size j) y) → found ≡ true → has now x ≡ true
has_at size mask now x y j found view same below is here =
    let l : Rungs = record { size = size; mask = mask } in
    let next : among y (lowest l (j + 1)) ≡ true = lowest_more l y j ∙ or_right _ _ (sym is ∙ here) in
    let e : (j + 1) + (size - (j + 1)) ≡ size = omega arith in
    let all : among y (lowest l size) ≡ true = subst (λ (n : ℕ). among y (lowest l n) ≡ true) e (lowest_on l y (j + 1) (size - (j + 1)) next) in
    subst (λ (z : ℤ). has now z ≡ true) same (subst (λ (r : Rungs). has r y ≡ true) view all)

-- none of the lowest levels with one more is the one that is sought
pub none_more : (size mask : ℕ) (now : Rungs) (y : ℤ) (j : ℕ) (found : Bool) → record { size = size; mask = mask } ≡ now
    → found ≡ (bit_at mask j == 1 && int_eq (level size j) y) → found ≡ false
    → among y (lowest now j) ≡ false → among y (lowest now (j + 1)) ≡ false
none_more size mask now y j found view is missed before =
    subst (λ (r : Rungs). among y (lowest r j) ≡ false → among y (lowest r (j + 1)) ≡ false) view
    (λ h. lowest_more (record { size = size; mask = mask }) y j ∙ or_from _ _ h (sym is ∙ missed)) before

-- none of all levels is
pub has_none : (size mask : ℕ) (now : Rungs) (x y : ℤ) (j : ℕ) → record { size = size; mask = mask } ≡ now
    → y ≡ x → j ≡ size → among y (lowest now j) ≡ false → has now x ≡ false
has_none size mask now x y j view same e h =
    let all : j ≡ now.size = e ∙ ap (λ (r : Rungs). r.size) view in
    subst (λ (z : ℤ). has now z ≡ false) same (subst (λ (n : ℕ). among y (lowest now n) ≡ false) all h)
