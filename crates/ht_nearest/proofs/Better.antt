-- One value against another.
use Rattle.std.proofs.Common.{◌≡◌, ℕ, ◌<◌, Bool, true, false, ◌&&◌, ◌||◌, not, arith, ◌⊎◌, inl, inr}
use Rattle.std.specs.Prelude.{nat_lt}
use Rattle.std.proofs.lemmas.Bool.{false_from_ne_true, both_ways}
use Rattle.std.proofs.lemmas.Bool.Decides.{nat_tests}
use Rattle.ht_nearest.specs.Nearest.{IsOrder, is_better}

-- what the test says, over plain numbers
nearer_or_tied : (m n : ℕ) (b : Bool) → (nat_lt m n || (not (nat_lt n m) && b)) ≡ true → (m < n) ⊎ ((m ≡ n) × (b ≡ true))
nearer_or_tied m n true h = grind (arith, nat_tests)
nearer_or_tied m n false h = grind (arith, nat_tests)

nearer : (m n : ℕ) (b : Bool) → m < n → (nat_lt m n || (not (nat_lt n m) && b)) ≡ true
nearer m n true h = grind (arith, nat_tests)
nearer m n false h = grind (arith, nat_tests)

tied : (m n : ℕ) (b : Bool) → m ≡ n → b ≡ true → (nat_lt m n || (not (nat_lt n m) && b)) ≡ true
tied m n true h e = grind (arith, nat_tests)
tied m n false h e = grind (arith, nat_tests)

-- a better value is nearer, or as near and before
pub better_cases : {X : Type 0} (cost : X → ℕ) (before : X → X → Bool) (x y : X) → is_better cost before x y ≡ true
    → (cost x < cost y) ⊎ ((cost x ≡ cost y) × (before x y ≡ true))
better_cases cost before x y h = nearer_or_tied (cost x) (cost y) (before x y) h

pub better_nearer : {X : Type 0} (cost : X → ℕ) (before : X → X → Bool) (x y : X) → cost x < cost y → is_better cost before x y ≡ true
better_nearer cost before x y h = nearer (cost x) (cost y) (before x y) h

pub better_tied : {X : Type 0} (cost : X → ℕ) (before : X → X → Bool) (x y : X) → cost x ≡ cost y → before x y ≡ true → is_better cost before x y ≡ true
better_tied cost before x y e h = tied (cost x) (cost y) (before x y) e h

-- nothing is better than itself
pub better_apart : {X : Type 0} (is_member : X → Bool) (cost : X → ℕ) (before : X → X → Bool)
    → IsOrder is_member before → (x : X) → is_better cost before x x ≡ false
better_apart is_member cost before order x =
    false_from_ne_true _ (λ h. elim (better_cases cost before x x h) [
      | inl lt ↦ omega arith
      | inr both ↦ both_ways (before x x) (order.apart x) both.1
    ])

-- what is better than a better one is better
pub better_onward : {X : Type 0} (is_member : X → Bool) (cost : X → ℕ) (before : X → X → Bool) → IsOrder is_member before
    → (x y z : X) → is_better cost before x y ≡ true → is_better cost before y z ≡ true → is_better cost before x z ≡ true
better_onward is_member cost before order x y z p q =
    elim (better_cases cost before x y p) [
      | inl lt ↦ elim (better_cases cost before y z q) [
        | inl less ↦ better_nearer cost before x z (omega arith)
        | inr both ↦ better_nearer cost before x z (let e = both.0 in omega arith)
      ]
      | inr one ↦ elim (better_cases cost before y z q) [
        | inl less ↦ better_nearer cost before x z (let e = one.0 in omega arith)
        | inr both ↦ better_tied cost before x z (let e = one.0 in let f = both.0 in omega arith) (order.onward x y z one.1 both.1)
      ]
    ]
