-- Levels, nearest first.
use Rattle.std.proofs.Common.{◌≡◌, ℕ, zero, suc, ◌+◌, ◌<◌, ◌≤◌, ℤ, pos, List, [], ◌∷◌, ◌++◌, length, get_or, take, drop}
use Rattle.std.proofs.Common.{Bool, true, false, unsigned_abs, arith, add-one, ap, sym, ◌∙◌, refl, subst, inl, inr}
use Rattle.std.specs.Prelude.{nat_lt, ◌==◌, if◌then◌else◌}
use Rattle.std.specs.Int.{bit_at}
use Rattle.std.specs.Ordering.{int_eq}
use Rattle.std.specs.List.{All, remove}
use Rattle.std.proofs.lemmas.Bool.{cond-true, cond-false, cases_lt}
use Rattle.std.proofs.lemmas.Bool.Decides.{nat_tests}
use Rattle.std.proofs.lemmas.List.Elements.{All-append, All-take, All-drop}
use Rattle.ht_pam.specs.Ladders.{Rungs, IsLadder, level, lowest}
use Rattle.ht_pam.specs.Zigzags.{gap, put, nearest_first, From, Ascending, occurrences}
use Rattle.ht_pam.proofs.Tables.{length-lowest, size_few}

-- one more level of a ladder
lowest_step : (l : Rungs) (j : ℕ) → lowest l (j + 1) ≡ (if bit_at l.mask j == 1 then lowest l j ++ level l.size j ∷ [] else lowest l j)
lowest_step l j = rw add-one refl

pub lowest_taken : (size mask : ℕ) (now : Rungs) (j : ℕ) (items next : List ℤ) (y : ℤ) (allowed : Bool) → record { size = size; mask = mask } ≡ now
    → items ≡ lowest now j → allowed ≡ (bit_at mask j == 1) → allowed ≡ true → next ≡ items ++ y ∷ [] → y ≡ level size j → next ≡ lowest now (j + 1)
lowest_taken size mask now j items next y allowed view before is allows more same =
    subst (λ (r : Rungs). items ≡ lowest r j → next ≡ lowest r (j + 1)) view
    (λ e. more ∙ ap (λ (x : ℤ). items ++ x ∷ []) same ∙ ap (λ (xs : List ℤ). xs ++ level size j ∷ []) e
    ∙ sym (cond-true (bit_at mask j == 1) (lowest (record { size = size; mask = mask }) j ++ level size j ∷ [])
    (lowest (record { size = size; mask = mask }) j) (sym is ∙ allows)) ∙ sym (lowest_step (record { size = size; mask = mask }) j))
    before

pub lowest_left : (size mask : ℕ) (now : Rungs) (j : ℕ) (items : List ℤ) (allowed : Bool) → record { size = size; mask = mask } ≡ now
    → items ≡ lowest now j → allowed ≡ (bit_at mask j == 1) → allowed ≡ false → items ≡ lowest now (j + 1)
lowest_left size mask now j items allowed view before is denies =
    subst (λ (r : Rungs). items ≡ lowest r j → items ≡ lowest r (j + 1)) view
    (λ e. e ∙ sym (cond-false (bit_at mask j == 1) (lowest (record { size = size; mask = mask }) j ++ level size j ∷ [])
    (lowest (record { size = size; mask = mask }) j) (sym is ∙ denies)) ∙ sym (lowest_step (record { size = size; mask = mask }) j))
    before

pub lowest_room : (size mask : ℕ) (now : Rungs) (j : ℕ) (items : List ℤ)
    → IsLadder (record { size = size; mask = mask }) → j < size → items ≡ lowest now j → length items < 8
lowest_room size mask now j items ladder below e =
    let few = size_few (record { size = size; mask = mask }) ladder in
    omega (arith, length-lowest now j, ap length e)

module _ (cost : ℤ → ℕ) where
  pub put_behind : (x y : ℤ) (ys : List ℤ) → cost y < cost x → put cost x (y ∷ ys) ≡ y ∷ put cost x ys
  put_behind x y ys less =
      let h : nat_lt (cost y) (cost x) ≡ true = grind (arith, nat_tests) in
      cond-true (nat_lt (cost y) (cost x)) (y ∷ put cost x ys) (x ∷ y ∷ ys) h

  pub put_before : (x y : ℤ) (ys : List ℤ) → cost x ≤ cost y → put cost x (y ∷ ys) ≡ x ∷ y ∷ ys
  put_before x y ys le =
      let h : nat_lt (cost y) (cost x) ≡ false = grind (arith, nat_tests) in
      cond-false (nat_lt (cost y) (cost x)) (y ∷ put cost x ys) (x ∷ y ∷ ys) h

  pub from-weaker : (m n : ℕ) (xs : List ℤ) → m ≤ n → From cost n xs → From cost m xs
  from-weaker m n [] le h = tt
  from-weaker m n (x ∷ xs) le h = (omega (arith, h.0), from-weaker m n xs le h.1)

  from-put : (n : ℕ) (x : ℤ) (ys : List ℤ) → n ≤ cost x → From cost n ys → From cost n (put cost x ys)
  from-put n x [] p h = (p, tt)
  from-put n x (y ∷ ys) p h = elim (cases_lt (cost y) (cost x)) [
    | inl less ↦ subst (From cost n) (sym (put_behind x y ys less)) (h.0, from-put n x ys p h.1)
    | inr more ↦ subst (From cost n) (sym (put_before x y ys more)) (p, h)
  ]

  pub from-nearest_first : (n : ℕ) (xs : List ℤ) → From cost n xs → From cost n (nearest_first cost xs)
  from-nearest_first n [] h = tt
  from-nearest_first n (x ∷ xs) h = from-put n x (nearest_first cost xs) h.0 (from-nearest_first n xs h.1)

  ascending-put : (x : ℤ) (ys : List ℤ) → Ascending cost ys → Ascending cost (put cost x ys)
  ascending-put x [] h = (tt, tt)
  ascending-put x (y ∷ ys) h = elim (cases_lt (cost y) (cost x)) [
    | inl less ↦ subst (Ascending cost) (sym (put_behind x y ys less)) (from-put (cost y) x ys (omega arith) h.0, ascending-put x ys h.1)
    | inr more ↦ subst (Ascending cost) (sym (put_before x y ys more)) ((more, from-weaker (cost x) (cost y) ys more h.0), h)
  ]

  -- the nearest are first
  pub ascending : (xs : List ℤ) → Ascending cost (nearest_first cost xs)
  ascending [] = tt
  ascending (x ∷ xs) = ascending-put x (nearest_first cost xs) (ascending xs)

  pub put_first : (x : ℤ) (ys : List ℤ) → From cost (cost x) ys → put cost x ys ≡ x ∷ ys
  put_first x [] h = refl
  put_first x (y ∷ ys) h = put_before x y ys h.0

  from-all : (n : ℕ) (xs : List ℤ) → ((k : ℕ) → k < length xs → n ≤ cost (get_or xs k (pos 0))) → From cost n xs
  from-all n [] h = tt
  from-all n (x ∷ xs) h = (h zero (omega arith), from-all n xs (λ k below. h (suc k) (omega arith)))

  -- the first of the nearest is taken out
  pub taken : (xs : List ℤ) (i : ℕ) → i < length xs
      → ((k : ℕ) → k < i → cost (get_or xs i (pos 0)) < cost (get_or xs k (pos 0)))
      → ((k : ℕ) → k < length xs → cost (get_or xs i (pos 0)) ≤ cost (get_or xs k (pos 0)))
      → nearest_first cost xs ≡ get_or xs i (pos 0) ∷ nearest_first cost (remove xs i)
  taken [] i below before least = absurd (omega arith)
  taken (x ∷ xs) zero below before least =
      put_first x (nearest_first cost xs) (from-nearest_first (cost x) xs (from-all (cost x) xs (λ k lt. least (suc k) (omega arith))))
  taken (x ∷ xs) (suc i) below before least =
      let rest = taken xs i (omega arith) (λ k lt. before (suc k) (omega arith)) (λ k lt. least (suc k) (omega arith)) in
      ap (λ (ys : List ℤ). put cost x ys) rest
      ∙ put_behind x (get_or xs i (pos 0)) (nearest_first cost (remove xs i)) (before zero (omega arith))

-- none is left of none
pub none_first : (cost : ℤ → ℕ) (xs : List ℤ) → length xs ≡ 0 → nearest_first cost xs ≡ []
none_first cost [] e = refl
none_first cost (x ∷ xs) e = absurd (omega arith)

-- all but one stay small
pub remove_small : (xs : List ℤ) (i : ℕ) → All (λ x. unsigned_abs x ≤ 7) xs → All (λ x. unsigned_abs x ≤ 7) (remove xs i)
remove_small xs i h = All-append (λ x. unsigned_abs x ≤ 7) (take i xs) (drop (suc i) xs)
    (All-take (λ x. unsigned_abs x ≤ 7) i xs h) (All-drop (λ x. unsigned_abs x ≤ 7) (suc i) xs h)

-- the best of the first places
pub record IsBestOf (cost : ℕ → ℕ) (k best far : ℕ) : Type 0 where
  pub within : best < k
  pub is : far ≡ cost best
  pub before : (j : ℕ) → j < best → far < cost j
  pub least : (j : ℕ) → j < k → far ≤ cost j

module _ (cost : ℕ → ℕ) (k best far next b f : ℕ) (was : IsBestOf cost k best far) (one : next ≡ cost k) where
  pub best_taken : next < far → b ≡ k → f ≡ next → IsBestOf cost (k + 1) b f
  best_taken less p q = subst (λ (n : ℕ). IsBestOf cost (k + 1) n f) (sym p) (subst (λ (n : ℕ). IsBestOf cost (k + 1) k n) (sym q) (record {
    within = omega arith;
    is = one;
    before = λ j lt. let le = was.least j lt in omega arith;
    least = λ j lt. elim (cases_lt j k) [
      | inl sooner ↦ let le = was.least j sooner in omega arith
      | inr later ↦ let e : j ≡ k = omega arith in omega (arith, one, ap cost e)
    ];
  }))

  pub best_left : far ≤ next → b ≡ best → f ≡ far → IsBestOf cost (k + 1) b f
  best_left more p q = subst (λ (n : ℕ). IsBestOf cost (k + 1) n f) (sym p) (subst (λ (n : ℕ). IsBestOf cost (k + 1) best n) (sym q) (record {
    within = let lt = was.within in omega arith;
    is = was.is;
    before = was.before;
    least = λ j lt. elim (cases_lt j k) [
      | inl sooner ↦ was.least j sooner
      | inr later ↦ let e : j ≡ k = omega arith in omega (arith, one, ap cost e)
    ];
  }))

get_or_same : (xs : List ℤ) (i : ℕ) (d e : ℤ) → i < length xs → get_or xs i d ≡ get_or xs i e
get_or_same [] i d e below = absurd (omega arith)
get_or_same (x ∷ xs) zero d e below = refl
get_or_same (x ∷ xs) (suc i) d e below = get_or_same xs i d e (omega arith)

-- the level that was given, and what is left
pub next_is : (now items shown rest : List ℤ) (t u : ℤ) (d i : ℕ) (x y : ℤ) → nearest_first (gap t d) items ≡ now → u ≡ t → shown ≡ items → i < length shown
    → ((k : ℕ) → k < i → gap u d (get_or shown i (pos 0)) < gap u d (get_or shown k (pos 0)))
    → ((k : ℕ) → k < length shown → gap u d (get_or shown i (pos 0)) ≤ gap u d (get_or shown k (pos 0)))
    → x ≡ get_or items i x → y ≡ x → rest ≡ remove items i → now ≡ y ∷ nearest_first (gap t d) rest
next_is now items shown rest t u d i x y view same list within before least value shows left =
    let first = taken (gap u d) shown i within before least in
    let moved : nearest_first (gap t d) items ≡ get_or items i (pos 0) ∷ nearest_first (gap t d) (remove items i) =
    subst (λ (zs : List ℤ). nearest_first (gap t d) zs ≡ get_or zs i (pos 0) ∷ nearest_first (gap t d) (remove zs i)) list
    (subst (λ (v : ℤ). nearest_first (gap v d) shown ≡ get_or shown i (pos 0) ∷ nearest_first (gap v d) (remove shown i)) same first) in
    let below : i < length items = subst (λ (zs : List ℤ). i < length zs) list within in
    let head : get_or items i (pos 0) ≡ y = get_or_same items i (pos 0) x below ∙ sym value ∙ sym shows in
    sym view ∙ moved ∙ ap (λ (z : ℤ). z ∷ nearest_first (gap t d) (remove items i)) head ∙ ap (λ (zs : List ℤ). y ∷ nearest_first (gap t d) zs) (sym left)

length-put : (cost : ℤ → ℕ) (x : ℤ) (ys : List ℤ) → length (put cost x ys) ≡ suc (length ys)
length-put cost x [] = refl
length-put cost x (y ∷ ys) = elim (cases_lt (cost y) (cost x)) [
  | inl less ↦ ap (λ (zs : List ℤ). length zs) (put_behind cost x y ys less) ∙ ap suc (length-put cost x ys)
  | inr more ↦ ap (λ (zs : List ℤ). length zs) (put_before cost x y ys more)
]

pub length-nearest_first : (cost : ℤ → ℕ) (xs : List ℤ) → length (nearest_first cost xs) ≡ length xs
length-nearest_first cost [] = refl
length-nearest_first cost (x ∷ xs) = length-put cost x (nearest_first cost xs) ∙ ap suc (length-nearest_first cost xs)

-- where a level is to be given, one is left
pub some_left : (now items shown : List ℤ) (t : ℤ) (d : ℕ) → nearest_first (gap t d) items ≡ now → shown ≡ items → 0 < length now → 0 < length shown
some_left now items shown t d view list some = omega (arith, ap length view, ap length list, length-nearest_first (gap t d) items)

-- the level that will be given
pub first_is : (now items shown : List ℤ) (t u : ℤ) (d i : ℕ) → nearest_first (gap t d) items ≡ now → u ≡ t → shown ≡ items → i < length shown
    → ((k : ℕ) → k < i → gap u d (get_or shown i (pos 0)) < gap u d (get_or shown k (pos 0)))
    → ((k : ℕ) → k < length shown → gap u d (get_or shown i (pos 0)) ≤ gap u d (get_or shown k (pos 0)))
    → get_or shown i (pos 0) ≡ get_or now 0 (pos 0)
first_is now items shown t u d i view same list within before least =
    let first = taken (gap u d) shown i within before least in
    let moved : nearest_first (gap t d) items ≡ get_or shown i (pos 0) ∷ nearest_first (gap t d) (remove shown i) =
    subst (λ (zs : List ℤ). nearest_first (gap t d) zs ≡ get_or shown i (pos 0) ∷ nearest_first (gap t d) (remove shown i)) list
    (subst (λ (v : ℤ). nearest_first (gap v d) shown ≡ get_or shown i (pos 0) ∷ nearest_first (gap v d) (remove shown i)) same first) in
    sym (ap (λ (zs : List ℤ). get_or zs 0 (pos 0)) (sym view ∙ moved))

module _ (cost : ℤ → ℕ) (v : ℤ) where
  exchanged : (m n t : ℕ) → n + (m + t) ≡ m + (n + t)
  exchanged m n t = omega arith

  times-put : (x : ℤ) (ys : List ℤ) → occurrences v (put cost x ys) ≡ occurrences v (x ∷ ys)
  times-put x [] = refl
  times-put x (y ∷ ys) = elim (cases_lt (cost y) (cost x)) [
    | inl less ↦ ap (occurrences v) (put_behind cost x y ys less) ∙ ap (λ (n : ℕ). (if int_eq y v then 1 else 0) + n) (times-put x ys)
        ∙ exchanged (if int_eq x v then 1 else 0) (if int_eq y v then 1 else 0) (occurrences v ys)
    | inr more ↦ ap (occurrences v) (put_before cost x y ys more)
  ]

  -- the same levels, each as often
  pub same_times : (xs : List ℤ) → occurrences v (nearest_first cost xs) ≡ occurrences v xs
  same_times [] = refl
  same_times (x ∷ xs) = times-put x (nearest_first cost xs) ∙ ap (λ (n : ℕ). (if int_eq x v then 1 else 0) + n) (same_times xs)
