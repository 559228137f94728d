-- What the streams behind a row leave of its target.
use Rattle.std.proofs.Common.{◌≡◌, ℕ, suc, ◌+◌, ◌-◌, ◌*◌, ◌%◌, ◌^◌, ◌<◌, ◌≤◌, ℤ, pos, negsuc, ◌+ℤ◌, ◌-ℤ◌, ◌*ℤ◌, unsigned_abs, arith, ap, sym, ◌∙◌, subst}
use Rattle.std.specs.Int.{cast_signed, cast_unsigned, w32}
use Rattle.std.proofs.lemmas.Int.{ints, fits_signed_mul, wrapping_mul-bits, int_wrap_fits, of_z-to_z}
use Rattle.ht_metric.specs.Distance.{IsInRange, minus as complex_minus, times as entry_times}
use Rattle.ht_metric.specs.declared.complex.Complex.{Complex}
use Rattle.ht_metric.specs.declared.tap.Tap.{Tap}
use Rattle.ht_rounding.specs.Words.{Holds, minus}
use Rattle.ht_rounding.specs.RowSteps.{HoldBoth, IsEntry, point_of}
use Rattle.ht_rounding.proofs.Folding.{below, holds-minus, holds-plus}

-- a lane holds the number with a sign that it is
holds-by : (a : ℕ) (z : ℤ) → a < 2 ^ 32 → cast_signed w32 a ≡ z → Holds a z
holds-by a (pos n) lt e =
    let same : n ≡ a = sym (ap (cast_unsigned w32) e) ∙ of_z-to_z w32 a lt in
    (0, 0, omega (arith, ints, same))
holds-by a (negsuc n) lt e =
    let same : 2 ^ 32 - suc n ≡ a = sym (ap (cast_unsigned w32) e) ∙ of_z-to_z w32 a lt in
    negative (grind (arith, same))
  where
    negative : 2 ^ 32 ≡ a + suc n → Holds a (negsuc n)
    negative f = (0, 1, omega (arith, ints, f))

-- an entry's part times a level
pub holds-product : (a b p : ℕ) → a < 2 ^ 32 → b < 2 ^ 32 → p ≡ (a * b) % 2 ^ 32 → unsigned_abs (cast_signed w32 a) ≤ 2 ^ 15
    → unsigned_abs (cast_signed w32 b) ≤ 7
    → Holds p (cast_signed w32 a *ℤ cast_signed w32 b)
holds-product a b p la lb ep few small =
    let r = cast_signed w32 a in
    let x = cast_signed w32 b in
    let fits = fits_signed_mul w32 r x (2 ^ 15) 7 few small (omega arith) in
    subst (λ (n : ℕ). Holds n (r *ℤ x)) (sym ep)
    (holds-by ((a * b) % 2 ^ 32) (r *ℤ x) (below (a * b)) (wrapping_mul-bits w32 a b la lb ∙ int_wrap_fits w32 (r *ℤ x) fits))

-- the same by the entry's own parts
by-entry : (a p : ℕ) (r x : ℤ) → cast_signed w32 a ≡ r → unsigned_abs r ≤ 2 ^ 15
    → (unsigned_abs (cast_signed w32 a) ≤ 2 ^ 15 → unsigned_abs x ≤ 7 → Holds p (cast_signed w32 a *ℤ x))
    → unsigned_abs x ≤ 7 → Holds p (r *ℤ x)
by-entry a p r x e few product small =
    subst (λ (y : ℤ). Holds p (y *ℤ x)) e (product (subst (λ (y : ℤ). unsigned_abs y ≤ 2 ^ 15) (sym e) few) small)

abbrev pub Multiplies : ℕ → ℕ → ℕ → Type 0
Multiplies a b p = unsigned_abs (cast_signed w32 a) ≤ 2 ^ 15 → unsigned_abs (cast_signed w32 b) ≤ 7 → Holds p (cast_signed w32 a *ℤ cast_signed w32 b)

-- what a difference holds, of lanes that hold their parts
difference : (t u p : ℕ) (z w : ℤ) → p ≡ minus t u → u < 2 ^ 32 → Holds t z → Holds u w → Holds p (z -ℤ w)
difference t u p z w e lt h k = subst (λ (n : ℕ). Holds n (z -ℤ w)) (sym e) (holds-minus t u z w lt h k)

pub left : (t_re t_im e_re e_im x_i x_q a b c d u v re im : ℕ) (z : Complex) (r : Tap)
    → Multiplies e_re x_i a → Multiplies e_im x_q b → Multiplies e_re x_q c → Multiplies e_im x_i d → b < 2 ^ 32
    → u ≡ minus a b → v ≡ (c + d) % 2 ^ 32 → re ≡ minus t_re u → im ≡ minus t_im v
    → HoldBoth t_re t_im z → IsEntry e_re e_im r → IsInRange (point_of x_i x_q) → HoldBoth re im (complex_minus z (entry_times r (point_of x_i x_q)))
left t_re t_im e_re e_im x_i x_q a b c d u v re im z r ma mb mc md lb eu ev er em held entry few =
    let x = point_of x_i x_q in
    let h_a = by-entry e_re a r.re x.i entry.re entry.few_re ma few.i in
    let h_b = by-entry e_im b r.im x.q entry.im entry.few_im mb few.q in
    let h_c = by-entry e_re c r.re x.q entry.re entry.few_re mc few.q in
    let h_d = by-entry e_im d r.im x.i entry.im entry.few_im md few.i in
    let h_v : Holds v ((r.re *ℤ x.q) +ℤ (r.im *ℤ x.i)) = subst (λ (n : ℕ). Holds n ((r.re *ℤ x.q) +ℤ (r.im *ℤ x.i))) (sym ev) (holds-plus c d _ _ h_c h_d) in
    record {
      re = difference t_re u re z.re _ er (omega (arith, eu)) held.re (difference a b u _ _ eu lb h_a h_b);
      im = difference t_im v im z.im _ em (omega (arith, ev)) held.im h_v;
    }
