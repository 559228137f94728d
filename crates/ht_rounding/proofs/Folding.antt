-- A target folded at 0: twice as many levels as behind the fold.
use Rattle.std.proofs.Common.{◌≡◌, ℕ, zero, suc, ◌+◌, ◌-◌, ◌*◌, ◌%◌, ◌/◌, ◌^◌, ◌<◌, ◌≤◌, ℤ, pos, ◌+ℤ◌, ◌-ℤ◌, ◌*ℤ◌, Bool, true, false, unsigned_abs, arith}
use Rattle.std.proofs.Common.{refl, ap, sym, ◌∙◌, subst}
use Rattle.std.specs.Prelude.{if◌then◌else◌}
use Rattle.std.specs.Int.{cast_signed, int_wrap, w32}
use Rattle.std.proofs.lemmas.Bool.Decides.{nat_tests}
use Rattle.std.proofs.lemmas.Int.{ints, wrapping_add-bits, wrapping_sub-bits, int_wrap_fits}
use Rattle.std.proofs.Math.IntN.{suc_ℤ-*ℤ, zero-*ℤ}
use Rattle.ht_pam.specs.Zigzags.{gap}
use Rattle.ht_rounding.specs.Words.{Holds, minus, size, turned, is_negative}
use Rattle.ht_rounding.specs.Proposals.{IsLevel, Proposes}

-- the sign that a lane says
abbrev pub signed : Bool → ℤ → ℤ
signed b z = if b then pos 0 -ℤ z else z

pub below : (n : ℕ) → n % 2 ^ 32 < 2 ^ 32
below n = omega arith

-- products with a diagonal
pub times_sum : (d : ℕ) (x y : ℤ) → pos d *ℤ (x +ℤ y) ≡ (pos d *ℤ x) +ℤ (pos d *ℤ y)
times_sum zero x y = let a = zero-*ℤ (x +ℤ y) in let b = zero-*ℤ x in let c = zero-*ℤ y in omega (arith, ints)
times_sum (suc d) x y =
    let a = suc_ℤ-*ℤ (pos d) (x +ℤ y) in
    let b = suc_ℤ-*ℤ (pos d) x in
    let c = suc_ℤ-*ℤ (pos d) y in
    let e = times_sum d x y in
    omega (arith, ints)

pub times_minus : (d : ℕ) (x : ℤ) → pos d *ℤ (pos 0 -ℤ x) ≡ pos 0 -ℤ (pos d *ℤ x)
times_minus zero x = let a = zero-*ℤ (pos 0 -ℤ x) in let b = zero-*ℤ x in omega (arith, ints)
times_minus (suc d) x =
    let a = suc_ℤ-*ℤ (pos d) (pos 0 -ℤ x) in
    let b = suc_ℤ-*ℤ (pos d) x in
    let e = times_minus d x in
    omega (arith, ints)

-- a difference of what two lanes hold
pub holds-minus : (a b : ℕ) (z w : ℤ) → b < 2 ^ 32 → Holds a z → Holds b w → Holds (minus a b) (z -ℤ w)
holds-minus a b z w lt h k = (h.0 + k.1 + (a + (2 ^ 32 - b)) / 2 ^ 32, 1 + h.1 + k.0, omega (arith, ints, h.2, k.2))

pub holds-plus : (a b : ℕ) (z w : ℤ) → Holds a z → Holds b w → Holds ((a + b) % 2 ^ 32) (z +ℤ w)
holds-plus a b z w h k = (h.0 + k.0 + (a + b) / 2 ^ 32, h.1 + k.1, omega (arith, ints, h.2, k.2))

pub holds-number : (n : ℕ) → Holds n (pos n)
holds-number n = (0, 0, omega (arith, ints))

-- the size of a lane
size-negative : (a : ℕ) → a < 2 ^ 32 → is_negative a ≡ true → size a ≡ 2 ^ 32 - a
size-negative a lt b = grind (arith, nat_tests)

size-other : (a : ℕ) → a < 2 ^ 32 → is_negative a ≡ false → size a ≡ a
size-other a lt b = grind (arith, nat_tests)

pub holds-size : (a : ℕ) (z : ℤ) → a < 2 ^ 32 → Holds a z → Holds (size a) (signed (is_negative a) z)
holds-size a z lt h = by (is_negative a) refl
  where
    by : (b : Bool) → is_negative a ≡ b → Holds (size a) (signed (is_negative a) z)
    by true e =
        let s = size-negative a lt e in
        let held : Holds (size a) (pos 0 -ℤ z) = (h.1, h.0 + 1, omega (arith, ints, s, h.2)) in
        subst (λ (t : Bool). Holds (size a) (signed t z)) (sym e) held
    by false e =
        let held : Holds (size a) z = subst (λ (n : ℕ). Holds n z) (sym (size-other a lt e)) h in
        subst (λ (t : Bool). Holds (size a) (signed t z)) (sym e) held

-- what is small and held is true
pub held : (g : ℕ) (z : ℤ) → g < 2 ^ 15 → unsigned_abs z ≤ 2 ^ 31 + 2 ^ 22 → Holds g z → unsigned_abs z ≡ g
held g z small bound h = omega (arith, ints, h.2)

signed-abs : (b : Bool) (z : ℤ) → unsigned_abs (signed b z) ≡ unsigned_abs z
signed-abs true z = omega (arith, ints)
signed-abs false z = refl

folded-abs : (b : Bool) (z : ℤ) (n bound : ℕ) → unsigned_abs z ≤ bound → unsigned_abs (signed b z -ℤ pos n) ≤ bound + n
folded-abs true z n bound h = omega (arith, ints, h)
folded-abs false z n bound h = omega (arith, ints, h)

pub size-most : (a : ℕ) → a < 2 ^ 32 → size a ≤ 2 ^ 31
size-most a lt = grind (arith, nat_tests)

-- one level leaves the target itself
none : (d : ℕ) (z : ℤ) → z -ℤ (pos d *ℤ pos 0) ≡ z
none d z = let e = times_minus d (pos 0) in omega (arith, ints)

pub one-proposes : (t d g bound : ℕ) → t < 2 ^ 32 → bound ≤ 2 ^ 31 + 2 ^ 22 → g ≡ size t → Proposes 1 bound t d 0 g
one-proposes t d g bound lt le e = record {
  lane = omega arith;
  left = omega (arith, e, size-most t lt);
  level = (0, omega arith, refl);
  gap = λ small z near h.
      let s = signed (is_negative t) z in
      let true_one = held g s small (omega (arith, signed-abs (is_negative t) z, near, le)) (subst (λ (n : ℕ). Holds n s) (sym e) (holds-size t z lt h)) in
      ap unsigned_abs (none d z) ∙ sym (signed-abs (is_negative t) z) ∙ true_one;
}

-- what is left behind the fold is what is left
fold-gap : (b : Bool) (d half : ℕ) (z v : ℤ) → gap (signed b z -ℤ pos (d * half)) d v ≡ gap z d (signed b (pos half +ℤ v))
fold-gap true d half z v =
    let s = times_sum d (pos half) v in
    let n = times_minus d (pos half +ℤ v) in
    let p : pos d *ℤ pos half ≡ pos (d * half) = refl in
    omega (arith, ints, s, n, p)
fold-gap false d half z v =
    let s = times_sum d (pos half) v in
    let p : pos d *ℤ pos half ≡ pos (d * half) = refl in
    omega (arith, ints, s, p)

-- a level before and behind the fold
fold-level : (b : Bool) (half : ℕ) (v : ℤ) → 1 ≤ half → IsLevel half v → IsLevel (2 * half) (signed b (pos half +ℤ v))
fold-level true half v some p = (half - 1 - p.0, omega (arith, p.1, some), omega (arith, ints, p.1, p.2, some))
fold-level false half v some p = (p.0 + half, omega (arith, p.1), omega (arith, ints, p.1, p.2, some))

small-level : (n : ℕ) (v : ℤ) → IsLevel n v → unsigned_abs v ≤ n
small-level n v p = omega (arith, ints, p.1, p.2)

-- the lane of a level before the fold
raised-is : (half y : ℕ) → half ≤ 4 → y < 2 ^ 32 → unsigned_abs (cast_signed w32 y) ≤ 7 → cast_signed w32 ((half + y) % 2 ^ 32) ≡ pos half +ℤ cast_signed w32 y
raised-is half y few lt small =
    let same : cast_signed w32 half ≡ pos half = signed-small half (omega arith) in
    wrapping_add-bits w32 half y (omega arith) lt ∙ ap (λ (z : ℤ). int_wrap w32 (z +ℤ cast_signed w32 y)) same
    ∙ int_wrap_fits w32 (pos half +ℤ cast_signed w32 y) (omega (arith, ints, small, few))
  where
    signed-small : (n : ℕ) → n < 2 ^ 31 → cast_signed w32 n ≡ pos n
    signed-small n lt = grind (arith, ints, nat_tests)

turned-is : (t w : ℕ) → w < 2 ^ 32 → unsigned_abs (cast_signed w32 w) ≤ 8 → cast_signed w32 (turned t w) ≡ signed (is_negative t) (cast_signed w32 w)
turned-is t w lt small = by (is_negative t)
  where
    by : (b : Bool) → cast_signed w32 (if b then minus 0 w else w) ≡ signed b (cast_signed w32 w)
    by true = wrapping_sub-bits w32 0 w (omega arith) lt ∙ int_wrap_fits w32 (pos 0 -ℤ cast_signed w32 w) (omega (arith, ints, small))
    by false = refl

pub turned-below : (t w : ℕ) → w < 2 ^ 32 → turned t w < 2 ^ 32
turned-below t w lt = by (is_negative t)
  where
    by : (b : Bool) → (if b then minus 0 w else w) < 2 ^ 32
    by true = below (0 + (2 ^ 32 - w))
    by false = lt

-- twice as many levels
pub unfolds : (half bound t d s y g x : ℕ) → 1 ≤ half → half ≤ 4 → t < 2 ^ 32 → d < 2 ^ 16 → s ≡ minus (size t) ((d * half) % 2 ^ 32)
    → x ≡ turned t ((half + y) % 2 ^ 32) → Proposes half (bound + d * half) s d y g → Proposes (2 * half) bound t d x g
unfolds half bound t d s y g x some few lt small es ex inner =
    let b = is_negative t in
    let v = cast_signed w32 y in
    let v_small = small-level half v inner.level in
    let up = raised-is half y few inner.lane (omega (arith, v_small, few)) in
    let w = (half + y) % 2 ^ 32 in
    let is : cast_signed w32 x ≡ signed b (pos half +ℤ v) =
    ap (cast_signed w32) ex ∙ turned-is t w (below (half + y)) (omega (arith, ints, ap unsigned_abs up, v_small, few)) ∙ ap (λ (z : ℤ). signed b z) up in
    let product : d * half < 2 ^ 32 = less d half small few in
    let whole : (d * half) % 2 ^ 32 ≡ d * half = omega (arith, product) in
    record {
      left = inner.left;
      lane = subst (λ (n : ℕ). n < 2 ^ 32) (sym ex) (turned-below t w (below (half + y)));
      level = subst (λ (z : ℤ). IsLevel (2 * half) z) (sym is) (fold-level b half v some inner.level);
      gap = λ near z within h.
          let s_z = signed b z -ℤ pos (d * half) in
          let s_holds : Holds s s_z =
          subst (λ (n : ℕ). Holds n s_z) (sym (es ∙ ap (λ (n : ℕ). minus (size t) n) whole))
          (holds-minus (size t) (d * half) (signed b z) (pos (d * half)) product (holds-size t z lt h) (holds-number (d * half))) in
          ap (λ (q : ℤ). gap z d q) is ∙ sym (fold-gap b d half z v) ∙ inner.gap near s_z (folded-abs b z (d * half) bound within) s_holds;
    }
  where
    less : (d half : ℕ) → d < 2 ^ 16 → half ≤ 4 → d * half < 2 ^ 32
    less d half small few = let m = times-most d half small few in omega (arith, m)
      where
        times-most : (d half : ℕ) → d < 2 ^ 16 → half ≤ 4 → d * half ≤ 2 ^ 18
        times-most d zero small few = omega arith
        times-most d (suc zero) small few = omega arith
        times-most d (suc (suc zero)) small few = omega arith
        times-most d (suc (suc (suc zero))) small few = omega arith
        times-most d (suc (suc (suc (suc zero)))) small few = omega arith
        times-most d (suc (suc (suc (suc (suc n))))) small few = absurd (omega arith)
