-- All ladders, one by one.
use Rattle.std.proofs.Common.{◌≡◌, ◌⊎◌, ℕ, zero, suc, ◌^◌, ◌<◌, ◌≤◌, ℤ, pos, negsuc, unsigned_abs, Bool, true, false, ◌&&◌}
use Rattle.std.proofs.Common.{List, [], ◌∷◌, ◌++◌, ◌-◌, length, length-append, refl, sym, ap, subst, arith, inl, inr}
use Rattle.std.specs.Prelude.{nat_lt, ◌==◌, if◌then◌else◌}
use Rattle.std.specs.Int.{bit_at}
use Rattle.std.specs.List.{All, filter}
use Rattle.std.specs.Cmp.Rules.{signed_items}
use Rattle.std.specs.Ordering.{int_eq}
use Rattle.std.proofs.lemmas.Bool.{and_parts, cases_lt, ltb-true}
use Rattle.std.proofs.lemmas.List.Elements.{All-filter, All-from_recursion}
use lib.Pointwise.{pointwise}
use Rattle.ht_pam.specs.Ladders.{Rungs, IsLadder, level, lowest, levels, has}

-- every level that a ladder may have, ascending
abbrev pub every : List ℤ
every = negsuc 6 ∷ negsuc 4 ∷ negsuc 2 ∷ negsuc 0 ∷ pos 0 ∷ pos 1 ∷ pos 3 ∷ pos 5 ∷ pos 7 ∷ []

unfoldable good : ℕ → ℕ → Bool
good size mask =
    let l : Rungs = record { size = size; mask = suc mask } in
    pointwise int_eq (levels l) (filter (has l) every) && nat_lt 0 (length (levels l))

unfoldable pub all_below : (ℕ → Bool) → ℕ → Bool
all_below p zero = true
all_below p (suc n) = p n && all_below p n

pub at_below : (p : ℕ → Bool) (n k : ℕ) → all_below p n ≡ true → k < n → p k ≡ true
unfolding all_below
at_below p zero k h below = absurd (omega arith)
at_below p (suc n) k h below =
    let parts = and_parts (p n) (all_below p n) h in
    elim (cases_lt k n) [
      | inl less ↦ at_below p n k parts.1 less
      | inr more ↦ let e : n ≡ k = omega arith in subst (λ (j : ℕ). p j ≡ true) e parts.0
    ]

abbrev pub IsSize : ℕ → Type 0
IsSize size = (size ≡ 1) ⊎ (size ≡ 2) ⊎ (size ≡ 4) ⊎ (size ≡ 8)

-- what holds of the four sizes holds of each
pub of_sizes : (P : ℕ → Type 0) → P 1 × P 2 × P 4 × P 8 → (size : ℕ) → IsSize size → P size
of_sizes P ps size is = elim is [
  | inl one ↦ subst P (sym one) ps.0
  | inr rest ↦ elim rest [
    | inl two ↦ subst P (sym two) ps.1
    | inr more ↦ elim more [
      | inl four ↦ subst P (sym four) ps.2
      | inr eight ↦ subst P (sym eight) ps.3
    ]
  ]
]

-- a test of each mask with a level, of each size
abbrev pub AllMasks : (ℕ → ℕ → Bool) → Type 0
AllMasks p = (all_below (p 1) 1 ≡ true) × (all_below (p 2) 3 ≡ true) × (all_below (p 4) 15 ≡ true) × (all_below (p 8) 255 ≡ true)

pub of_mask : (p : ℕ → ℕ → Bool) → AllMasks p → (size mask : ℕ) → IsSize size → 0 < mask → mask < 2 ^ size → p size (mask - 1) ≡ true
of_mask p tests size mask is some within =
    of_sizes (λ n. mask < 2 ^ n → p n (mask - 1) ≡ true) (
      λ lt. at_below (p 1) 1 (mask - 1) tests.0 (omega arith),
      λ lt. at_below (p 2) 3 (mask - 1) tests.1 (omega arith),
      λ lt. at_below (p 4) 15 (mask - 1) tests.2 (omega arith),
      λ lt. at_below (p 8) 255 (mask - 1) tests.3 (omega arith),
    )
    size is within

all_tests : AllMasks good
unfolding all_below good
all_tests = (refl, refl, refl, refl)

-- what was seen of each
record IsGood (l : Rungs) : Type 0 where
  pub list : levels l ≡ filter (has l) every
  pub some : 0 < length (levels l)

seen : (size mask : ℕ) → good size mask ≡ true → IsGood (record { size = size; mask = suc mask })
unfolding good
seen size mask h =
    let l : Rungs = record { size = size; mask = suc mask } in
    let parts = and_parts (pointwise int_eq (levels l) (filter (has l) every)) (nat_lt 0 (length (levels l))) h in
    record { list = (signed_items (levels l) (filter (has l) every)).0 parts.0; some = ltb-true 0 (length (levels l)) parts.1 }

all_good : (l : Rungs) → IsLadder l → IsGood l
all_good l ladder =
    let one : suc (l.mask - 1) ≡ l.mask = omega (arith, ladder.some) in
    let at : ℕ → Rungs = λ m. record { size = l.size; mask = m } in
    subst IsGood (ap at one) (seen l.size (l.mask - 1) (of_mask good all_tests l.size l.mask ladder.size ladder.some ladder.within))

-- a ladder's levels are those of all levels that it has
pub levels-filter : (l : Rungs) → IsLadder l → levels l ≡ filter (has l) every
levels-filter l ladder = (all_good l ladder).list

-- a ladder has a level
pub levels_some : (l : Rungs) → IsLadder l → 0 < length (levels l)
levels_some l ladder = (all_good l ladder).some

-- and not more than its size
pub length-lowest : (l : Rungs) (j : ℕ) → length (lowest l j) ≤ j
length-lowest l zero = omega arith
length-lowest l (suc j) = one_longer (bit_at l.mask j == 1) (lowest l j) (level l.size j) j (length-lowest l j)
  where
    one_longer : (b : Bool) (xs : List ℤ) (x : ℤ) (n : ℕ) → length xs ≤ n → length (if b then xs ++ x ∷ [] else xs) ≤ suc n
    one_longer true xs x n le = omega (arith, length-append xs (x ∷ []))
    one_longer false xs x n le = omega arith

pub size_few : (l : Rungs) → IsLadder l → l.size ≤ 8
size_few l ladder = of_sizes (λ n. n ≤ 8) (omega arith, omega arith, omega arith, omega arith) l.size ladder.size

pub levels_few : (l : Rungs) → IsLadder l → length (levels l) ≤ 8
levels_few l ladder = omega (arith, length-lowest l l.size, size_few l ladder)

-- every level of a ladder is from -7 to 7
pub every_small : All (λ x. unsigned_abs x ≤ 7) every
every_small =
    All-from_recursion (λ x. unsigned_abs x ≤ 7) every
    (omega arith, (omega arith, (omega arith, (omega arith, (omega arith, (omega arith, (omega arith, (omega arith, (omega arith, tt)))))))))

pub levels_small : (l : Rungs) → IsLadder l → All (λ x. unsigned_abs x ≤ 7) (levels l)
levels_small l ladder = rw (levels-filter l ladder) (All-filter (has l) (λ x. unsigned_abs x ≤ 7) every every_small)
