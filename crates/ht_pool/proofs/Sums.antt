-- Sums over a list that changes at one place.
use Rattle.std.proofs.Common.{◌≡◌, ℕ, zero, suc, ◌+◌, ◌≤◌, List, [], ◌∷◌, set, sym, ap, refl, arith}
use Rattle.std.specs.List.{sum_by}
use Rattle.std.proofs.lemmas.List.Sums.{sum_by-cons}
use mathlib.Core.Option.{some, some-ne-none}
use lib.ListN.{get_elem?}

module _ {X : Type 0} (f : X → ℕ) where
  -- the sum after a change of one member
  pub sum_by-set_at : (xs : List X) (port : ℕ) (v w : X) → get_elem? xs port ≡ some v → sum_by f (set xs port w) + f v ≡ sum_by f xs + f w
  sum_by-set_at [] port v w e = absurd (some-ne-none v (sym e))
  sum_by-set_at (x ∷ xs) zero v w e = let same : x ≡ v = cc in let p = ap f same in omega (arith, sum_by-cons f x xs, sum_by-cons f w xs)
  sum_by-set_at (x ∷ xs) (suc port) v w e = omega (arith, sum_by-cons f x xs, sum_by-cons f x (set xs port w), sum_by-set_at xs port v w e)

  -- a member is at most the sum
  pub at-le-sum_by : (xs : List X) (port : ℕ) (v : X) → get_elem? xs port ≡ some v → f v ≤ sum_by f xs
  at-le-sum_by [] port v e = absurd (some-ne-none v (sym e))
  at-le-sum_by (x ∷ xs) zero v e = let same : x ≡ v = cc in let p = ap f same in omega (arith, sum_by-cons f x xs)
  at-le-sum_by (x ∷ xs) (suc port) v e = omega (arith, sum_by-cons f x xs, at-le-sum_by xs port v e)

module _ {X : Type 0} (parts f : X → ℕ) where
  -- where all parts are 0, so is what goes with parts alone
  pub sum_by-idle : (xs : List X) → sum_by parts xs ≡ 0 → ((j : ℕ) (u : X) → get_elem? xs j ≡ some u → parts u ≡ 0 → f u ≡ 0) → sum_by f xs ≡ 0
  sum_by-idle [] none idle = refl
  sum_by-idle (x ∷ xs) none idle =
      let p = sum_by-cons parts x xs in
      omega (arith, sum_by-cons f x xs, idle 0 x refl (omega (arith, p)), sum_by-idle xs (omega (arith, p)) (λ j u e. idle (suc j) u e))

  -- one member has all parts, so the sum is its own
  pub sum_by-whole : (xs : List X) (port : ℕ) (v : X) → get_elem? xs port ≡ some v → sum_by parts xs ≡ parts v
      → ((j : ℕ) (u : X) → get_elem? xs j ≡ some u → parts u ≡ 0 → f u ≡ 0) → sum_by f xs ≡ f v
  sum_by-whole [] port v e all idle = absurd (some-ne-none v (sym e))
  sum_by-whole (x ∷ xs) zero v e all idle =
      let same : x ≡ v = cc in let p = ap f same in let q = ap parts same in let s = sum_by-cons parts x xs in
      omega (arith, sum_by-cons f x xs, sum_by-idle xs (omega (arith, s)) (λ j u at. idle (suc j) u at))
  sum_by-whole (x ∷ xs) (suc port) v e all idle =
      let least = at-le-sum_by parts xs port v e in let s = sum_by-cons parts x xs in
      omega (arith, sum_by-cons f x xs, idle 0 x refl (omega (arith, s)), sum_by-whole xs port v e (omega (arith, s)) (λ j u at. idle (suc j) u at))
