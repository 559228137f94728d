-- Bits of words that are put together, cut and shifted.
use Rattle.std.proofs.Common.{◌≡◌, ◌∙◌, ◌⊎◌, ℕ, zero, suc, ◌+◌, ◌-◌, ◌*◌, ◌/◌, ◌%◌, ◌^◌, ◌<◌, ◌≤◌, Bool, true, false, ◌&&◌, ◌||◌, ◌==◌}
use Rattle.std.proofs.Common.{min, max, nat_le, refl, ap, sym, arith, inl, inr, Option, None, Some, if◌then◌else◌}
use mathlib.Core.Bool.{xor}
use Rattle.std.specs.Int.{bit_at}
use Rattle.std.specs.Int.RustNames.{bit_and, bit_or, bit_xor}
use Rattle.std.proofs.Math.Nat.{div-div-eq-div-mul}
use Rattle.std.proofs.lemmas.Nat.{one_shl, pow-add, pow_pos}
use Rattle.std.proofs.lemmas.Nat.Bits.{bit_at_and, bit_at_or, bit_at_xor, bit_at-lt, bit_at-zero, bit_at_above, bit_at_cat_high, bit_at_cat_low, bit_at_ones}
use Rattle.std.proofs.lemmas.Option.{none-some}
use Rattle.std.specs.Prelude.{unwrap_or}
use Rattle.std.proofs.lemmas.Bool.{cases_lt, cond-false, cond-true, le-leb, lt-leb}
use Rattle.ht_viterbi.specs.Packed.{flag}
use Rattle.ht_clean.specs.Planes.{and_then, back, lagged_bit, traced}
use Rattle.ht_clean.specs.declared.layout.Layout.{Layout}
use Rattle.ht_clean.specs.declared.layout.Stage.{Stage}

-- a bit is 0 or 1
two-ways : (n : ℕ) → n < 2 → (n ≡ 0) ⊎ (n ≡ 1)
two-ways zero lt = inl refl
two-ways (suc zero) lt = inr refl
two-ways (suc (suc n)) lt = absurd (omega (arith, lt))

by-bits : (f : ℕ → ℕ → Bool) (g : ℕ → ℕ → Bool) (m n : ℕ) → m < 2 → n < 2
    → f 0 0 ≡ g 0 0 → f 0 1 ≡ g 0 1 → f 1 0 ≡ g 1 0 → f 1 1 ≡ g 1 1 → f m n ≡ g m n
by-bits f g zero zero lm ln a b c d = a
by-bits f g zero (suc zero) lm ln a b c d = b
by-bits f g (suc zero) zero lm ln a b c d = c
by-bits f g (suc zero) (suc zero) lm ln a b c d = d
by-bits f g zero (suc (suc n)) lm ln a b c d = absurd (omega (arith, ln))
by-bits f g (suc zero) (suc (suc n)) lm ln a b c d = absurd (omega (arith, ln))
by-bits f g (suc (suc m)) n lm ln a b c d = absurd (omega (arith, lm))

pub flag-and : (x y i : ℕ) → flag (bit_and x y) i ≡ (flag x i && flag y i)
flag-and x y i =
    ap (λ (n : ℕ). n == 1) (bit_at_and x y i)
    ∙ by-bits (λ m n. min m n == 1) (λ m n. (m == 1) && (n == 1)) (bit_at x i) (bit_at y i) (bit_at-lt x i) (bit_at-lt y i) refl refl refl refl

pub flag-or : (x y i : ℕ) → flag (bit_or x y) i ≡ (flag x i || flag y i)
flag-or x y i =
    ap (λ (n : ℕ). n == 1) (bit_at_or x y i)
    ∙ by-bits (λ m n. max m n == 1) (λ m n. (m == 1) || (n == 1)) (bit_at x i) (bit_at y i) (bit_at-lt x i) (bit_at-lt y i) refl refl refl refl

pub flag-xor : (x y i : ℕ) → flag (bit_xor x y) i ≡ xor (flag x i) (flag y i)
unfolding xor
flag-xor x y i =
    ap (λ (n : ℕ). n == 1) (bit_at_xor x y i)
    ∙ by-bits (λ m n. (m + n) % 2 == 1) (λ m n. xor (m == 1) (n == 1)) (bit_at x i) (bit_at y i) (bit_at-lt x i) (bit_at-lt y i) refl refl refl refl

pub flag-shr : (x shift i : ℕ) → flag (x / 2 ^ shift) i ≡ flag x (shift + i)
flag-shr x shift i =
    ap (λ (n : ℕ). n % 2 == 1) (div-div-eq-div-mul x (2 ^ shift) (2 ^ i) ∙ ap (λ (n : ℕ). x / n) (sym (pow-add 2 shift i)))

-- what a word of 64 bits keeps
flag-mod : (x i : ℕ) → i < 64 → flag (x % 18446744073709551616) i ≡ flag x i
flag-mod x i lt =
    let whole : x / 18446744073709551616 * 2 ^ 64 + x % 18446744073709551616 ≡ x = omega arith in
    ap (λ (n : ℕ). n == 1) (sym (bit_at_cat_low (x / 18446744073709551616) 64 (x % 18446744073709551616) i lt) ∙ ap (λ (n : ℕ). bit_at n i) whole)

pub flag-shl-low : (x shift i : ℕ) → i < 64 → i < shift → flag (x * 2 ^ shift % 18446744073709551616) i ≡ false
flag-shl-low x shift i lt low =
    let none : x * 2 ^ shift + 0 ≡ x * 2 ^ shift = omega arith in
    flag-mod (x * 2 ^ shift) i lt
    ∙ ap (λ (n : ℕ). n == 1) (sym (ap (λ (n : ℕ). bit_at n i) none) ∙ (bit_at_cat_low x shift 0 i low ∙ bit_at-zero i))

pub flag-shl : (x shift i : ℕ) → i < 64 → shift ≤ i → flag (x * 2 ^ shift % 18446744073709551616) i ≡ flag x (i - shift)
flag-shl x shift i lt high =
    let none : x * 2 ^ shift + 0 ≡ x * 2 ^ shift = omega arith in
    flag-mod (x * 2 ^ shift) i lt
    ∙ ap (λ (n : ℕ). n == 1) (sym (ap (λ (n : ℕ). bit_at n i) none) ∙ bit_at_cat_high x shift 0 i (pow_pos shift) high)

-- the lowest bits of a word
mask : (count : ℕ) → count < 64 → 1 * 2 ^ count % 18446744073709551616 - 1 ≡ 2 ^ count - 1
mask count lt = ap (λ (n : ℕ). n - 1) (one_shl count 64 lt)

and-true : (b c : Bool) → c ≡ true → (b && c) ≡ b
and-true false c is = refl
and-true true c is = is

pub cut : (x count i : ℕ) → count < 64 → i < count → flag (bit_and x (1 * 2 ^ count % 18446744073709551616 - 1)) i ≡ flag x i
cut x count i few lt =
    flag-and x (1 * 2 ^ count % 18446744073709551616 - 1) i
    ∙ and-true (flag x i) _ (ap (λ (n : ℕ). flag n i) (mask count few) ∙ ap (λ (n : ℕ). n == 1) (bit_at_ones count i lt))

pub or-none : (b c : Bool) → c ≡ false → (b || c) ≡ b
or-none false c is = is
or-none true c is = refl

false-or : (b c : Bool) → (b && true) || (c && false) ≡ b
false-or false false = refl
false-or false true = refl
false-or true false = refl
false-or true true = refl

or-false : (b c : Bool) → (b && false) || (c && true) ≡ c
or-false false false = refl
or-false false true = refl
or-false true false = refl
or-false true true = refl

same-some : (a b : ℕ) → Some a ≡ Some b → a ≡ b
same-some a b is = ap (λ (o : Option ℕ). unwrap_or o a) is

chosen : (bits shift place origin : ℕ) (keep draw : Bool)
    → (if keep then (if draw then None else Some place) else (if draw then Some (place + shift) else None)) ≡ Some origin
    → (flag bits place && keep) || (flag bits (shift + place) && draw) ≡ flag bits origin
chosen bits shift place origin true true is = absurd (none-some origin is)
chosen bits shift place origin true false is =
    false-or (flag bits place) (flag bits (shift + place)) ∙ ap (flag bits) (same-some place origin is)
chosen bits shift place origin false true is =
    let at : place + shift ≡ origin = same-some (place + shift) origin is in
    let same : shift + place ≡ origin = omega (arith, at) in
    or-false (flag bits place) (flag bits (shift + place)) ∙ ap (flag bits) same
chosen bits shift place origin false false is = absurd (none-some origin is)

-- one stage of bringing bits together
pub drawn : (bits shift : ℕ) (stage : Stage) (place origin : ℕ) → back shift stage place ≡ Some origin
    → flag (bit_or (bit_and bits stage.keep) (bit_and (bits / 2 ^ shift) stage.draw)) place ≡ flag bits origin
drawn bits shift stage place origin is =
    flag-or (bit_and bits stage.keep) (bit_and (bits / 2 ^ shift) stage.draw) place
    ∙ (ap (λ (b : Bool). b || flag (bit_and (bits / 2 ^ shift) stage.draw) place) (flag-and bits stage.keep place)
    ∙ (ap (λ (b : Bool). (flag bits place && flag stage.keep place) || b)
    (flag-and (bits / 2 ^ shift) stage.draw place ∙ ap (λ (b : Bool). b && flag stage.draw place) (flag-shr bits shift place))
    ∙ chosen bits shift place origin (flag stage.keep place) (flag stage.draw place) is))

-- what one stage has from another
pub link : (o : Option ℕ) (next : ℕ → Option ℕ) (end : ℕ) (f goal : Bool) (g : ℕ → Bool) → and_then o next ≡ Some end
    → ((k : ℕ) → o ≡ Some k → f ≡ g k) → ((k : ℕ) → next k ≡ Some end → g k ≡ goal) → f ≡ goal
link None next end f goal g is first second = absurd (none-some end is)
link (Some k) next end f goal g is first second = first k refl ∙ second k is

pub traced-flags : (layout : Layout) (bits by-one by-two by-four by-eight by-sixteen place origin : ℕ)
    → ((p o : ℕ) → back 1 layout.by_one p ≡ Some o → flag by-one p ≡ flag bits o)
    → ((p o : ℕ) → back 2 layout.by_two p ≡ Some o → flag by-two p ≡ flag by-one o)
    → ((p o : ℕ) → back 4 layout.by_four p ≡ Some o → flag by-four p ≡ flag by-two o)
    → ((p o : ℕ) → back 8 layout.by_eight p ≡ Some o → flag by-eight p ≡ flag by-four o)
    → ((p o : ℕ) → back 16 layout.by_sixteen p ≡ Some o → flag by-sixteen p ≡ flag by-eight o)
    → traced layout place ≡ Some origin → flag by-sixteen place ≡ flag bits origin
unfolding traced
traced-flags layout bits by-one by-two by-four by-eight by-sixteen place origin one two four eight sixteen is =
    link (back 16 layout.by_sixteen place) _ origin _ _ (flag by-eight) is (λ k e. sixteen place k e) (λ e is-e.
    link (back 8 layout.by_eight e) _ origin _ _ (flag by-four) is-e (λ k e1. eight e k e1) (λ d is-d.
    link (back 4 layout.by_four d) _ origin _ _ (flag by-two) is-d (λ k e2. four d k e2) (λ c is-c.
    link (back 2 layout.by_two c) _ origin _ _ (flag by-one) is-c (λ k e3. two c k e3) (λ b is-b. one b origin is-b))))

-- an input bit some steps before
pub lagged-flag : (current previous width delay step : ℕ) → width < 64 → delay < width → previous < 2 ^ width → step < width
    → flag (bit_or (current * 2 ^ delay % 18446744073709551616) (previous / 2 ^ (width - delay))) step ≡ lagged_bit current previous width step delay
lagged-flag current previous width delay step few some whole lt = elim (cases_lt step delay) [
  | inl before ↦
      let at : width - delay + step ≡ width + step - delay = omega (arith, some, before) in
      flag-or _ _ step
      ∙ (ap (λ (b : Bool). b || flag (previous / 2 ^ (width - delay)) step) (flag-shl-low current delay step (omega (arith, lt, few)) before)
      ∙ (flag-shr previous (width - delay) step ∙ (ap (flag previous) at ∙ sym (cond-false (nat_le delay step) _ _ (lt-leb delay step before)))))
  | inr within ↦
      let high : width ≤ width - delay + step = omega (arith, some, within) in
      let none : flag (previous / 2 ^ (width - delay)) step ≡ false =
      flag-shr previous (width - delay) step ∙ ap (λ (n : ℕ). n == 1) (bit_at_above previous width (width - delay + step) whole high) in
      flag-or _ _ step
      ∙ (or-none _ _ none
      ∙ (flag-shl current delay step (omega (arith, lt, few)) within ∙ sym (cond-true (nat_le delay step) _ _ (le-leb delay step within))))
]
