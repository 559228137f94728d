-- Sums and products of small numbers in a wide type.
use Rattle.std.proofs.Common.{◌≡◌, ℕ, ◌*◌, ◌^◌, ◌<◌, ◌≤◌, ℤ, pos, negsuc, ◌*ℤ◌, unsigned_abs, to_z, of_z, FitsSigned}
use Rattle.std.proofs.Common.{refl, ap, sym, ◌∙◌, subst, arith, mul-le-mul}
use Rattle.std.specs.Int.{Width}
use mir.Val.{hbits}
use Rattle.std.proofs.lemmas.Int.{to_z-of_z, fits_signed_from_abs, unsigned_abs-mul}

-- a number of a width is within its range
pub fits_abs : (w : Width) (z : ℤ) → FitsSigned w z → unsigned_abs z ≤ 2 ^ hbits w
fits_abs w (pos n) f = omega (arith, f.sfits)
fits_abs w (negsuc n) f = omega (arith, f.sfits)

-- a product of numbers within bounds
pub bounded : (z a b : ℤ) (m n : ℕ) → z ≡ a *ℤ b → unsigned_abs a ≤ m → unsigned_abs b ≤ n → unsigned_abs z ≤ m * n
bounded z a b m n is first second = subst (λ (r : ℤ). unsigned_abs r ≤ m * n) (sym is) (omega (arith, unsigned_abs-mul a b, mul-le-mul first second))

-- a number of which it is known that it is within a width, as it is passed
pub held : (w : Width) (z u : ℤ) → z ≡ u → unsigned_abs u < 2 ^ hbits w → to_z w (of_z w z) ≡ u
held w z u is small = ap (λ (v : ℤ). to_z w (of_z w v)) is ∙ to_z-of_z w u (fits_signed_from_abs w u small)

module _ (w : Width) (x y a b : ℤ) (m n : ℕ) (e : x ≡ a) (f : y ≡ b) (first : unsigned_abs a ≤ m) (second : unsigned_abs b ≤ n)
    (wide : m < 2 ^ hbits w) (narrow : n < 2 ^ hbits w) where
  -- what an operation of two numbers that were made wider gives, and where that is within the width
  pub both : (op : ℤ → ℤ → ℤ) → op (to_z w (of_z w x)) (to_z w (of_z w y)) ≡ op a b
  both op = ap (λ (z : ℤ). op z (to_z w (of_z w y))) (held w x a e (omega arith)) ∙ ap (λ (z : ℤ). op a z) (held w y b f (omega arith))

  pub multiplies : m * n < 2 ^ hbits w → to_z w (of_z w (to_z w (of_z w x) *ℤ to_z w (of_z w y))) ≡ a *ℤ b
  multiplies room =
      ap (λ (z : ℤ). to_z w (of_z w z)) (both ◌*ℤ◌)
      ∙ held w (a *ℤ b) (a *ℤ b) refl (omega (arith, bounded (a *ℤ b) a b m n refl first second))
