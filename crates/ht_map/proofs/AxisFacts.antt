-- The levels of an axis and the bits that name them are one to one.
use Rattle.std.proofs.Common.{◌≡◌, ℕ, ◌<◌, ℤ, [], ◌∷◌, Bool, true, false, not, nat_lt, nat_eq, ◌&&◌}
use Rattle.std.proofs.Common.{◌||◌, ◌⊎◌, inl, inr, Option, None, Some, refl, arith, ap, cond, map, is_some}
use Rattle.std.proofs.lemmas.Bool.{and_parts, eqb-true}
use Rattle.std.proofs.lemmas.Bool.Decides.{Decides-int_eq, nat_tests}
use Rattle.std.specs.List.{list_any}
use Rattle.std.specs.Option.{option_eq}
use Rattle.std.specs.Ordering.{int_eq}
use Rattle.ht_map.specs.Gray.{Axis, level_at, bits_at}

-- what the test of two answers tells
pub same_option : (a b : Option ℕ) → option_eq nat_eq a b ≡ true → a ≡ b
same_option None None e = refl
same_option None (Some m) e = cc
same_option (Some n) None e = cc
same_option (Some n) (Some m) e = ap Some (eqb-true n m e)

-- no level is named by these bits
abbrev pub fresh : ℕ → Axis → Bool
fresh bits [] = true
fresh bits (step ∷ axis) = not (nat_eq step.0 bits) && fresh bits axis

-- all names differ, and are below the bound
abbrev pub sound : ℕ → Axis → Bool
sound top [] = true
sound top (step ∷ axis) = (nat_lt step.0 top && fresh step.0 axis) && sound top axis

-- an axis is asked level by level
step_by : (t : Bool) (n b : ℕ) (rest : Option ℕ) → cond t (Some n) rest ≡ Some b
    → ((t ≡ true) × (n ≡ b)) ⊎ ((t ≡ false) × (rest ≡ Some b))
step_by true n b rest e = inl (refl, cc)
step_by false n b rest e = inr (refl, e)

fresh-differs : (axis : Axis) (n b : ℕ) (x : ℤ) → fresh n axis ≡ true → bits_at axis x ≡ Some b → nat_eq n b ≡ false
unfolding bits_at
fresh-differs [] n b x f e = cc
fresh-differs (s ∷ axis) n b x f e =
    let parts = and_parts (not (nat_eq s.0 n)) (fresh n axis) f in
    elim (step_by (int_eq s.1 x) s.0 b (bits_at axis x) e) [
      | inl here ↦ differ s.0 n b parts.0 here.1
      | inr later ↦ fresh-differs axis n b x parts.1 later.1
    ]
  where
    differ : (m n b : ℕ) → not (nat_eq m n) ≡ true → m ≡ b → nat_eq n b ≡ false
    differ m n b other e = grind (arith, nat_tests)

-- the bits that name a level are below the bound, and give the level back
pub bits_at-level : (top : ℕ) (axis : Axis) (x : ℤ) (b : ℕ) → sound top axis ≡ true → bits_at axis x ≡ Some b
    → (b < top) × (level_at axis b ≡ x)
unfolding bits_at level_at
bits_at-level top [] x b s e = cc
bits_at-level top (s ∷ axis) x b ok e =
    let parts = and_parts (nat_lt s.0 top && fresh s.0 axis) (sound top axis) ok in
    let front = and_parts (nat_lt s.0 top) (fresh s.0 axis) parts.0 in
    elim (step_by (int_eq s.1 x) s.0 b (bits_at axis x) e) [
      | inl here ↦ (less s.0 b top front.0 here.1, first s.0 b s.1 x (level_at axis b) here.1 ((Decides-int_eq s.1 x).0 here.0))
      | inr later ↦
          let rest = bits_at-level top axis x b parts.1 later.1 in
          (rest.0, behind (nat_eq s.0 b) s.1 x (level_at axis b) (fresh-differs axis s.0 b x front.1 later.1) rest.1)
    ]
  where
    less : (n b top : ℕ) → nat_lt n top ≡ true → n ≡ b → b < top
    less n b top lt e = grind (arith, nat_tests)

    first : (n b : ℕ) (y x rest : ℤ) → n ≡ b → y ≡ x → cond (nat_eq n b) y rest ≡ x
    first n b y x rest e h = grind (arith, nat_tests)

    behind : (t : Bool) (y x rest : ℤ) → t ≡ false → rest ≡ x → cond t y rest ≡ x
    behind true y x rest f h = cc
    behind false y x rest f h = h

-- a level is named exactly where it is among the axis's levels
pub is_some-bits_at : (axis : Axis) (x : ℤ) → is_some (bits_at axis x) ≡ list_any (λ y. int_eq y x) (map (λ s. s.1) axis)
unfolding bits_at
is_some-bits_at [] x = refl
is_some-bits_at (s ∷ axis) x = by_test (int_eq s.1 x) s.0 (bits_at axis x) (list_any (λ y. int_eq y x) (map (λ s. s.1) axis)) (is_some-bits_at axis x)
  where
    by_test : (t : Bool) (n : ℕ) (rest : Option ℕ) (any : Bool) → is_some rest ≡ any → is_some (cond t (Some n) rest) ≡ (t || any)
    by_test true n rest any e = refl
    by_test false n rest any e = e
