-- The Gray code's arithmetic gives the tables of levels and bits, by computation over all of them.
use Rattle.std.proofs.Common.{◌≡◌, ℕ, ◌+◌, ◌-◌, ◌*◌, ◌/◌, ◌%◌, ◌^◌, ◌<◌, ◌≤◌, ℤ, ◌-ℤ◌, FitsSigned, Bool, true, nat_lt, nat_eq, cond}
use Rattle.std.proofs.Common.{inl, inr, Option, None, Some, refl, arith, ap, ◌∙◌, sym, subst}
use Rattle.std.proofs.lemmas.Bool.{agree_below, agree_below_at}
use Rattle.std.proofs.lemmas.Bool.Decides.{Decides-int_eq, nat_tests}
use Rattle.std.proofs.lemmas.Int.{to_z-of_z}
use Rattle.std.proofs.Math.Facts.{Fits-of_z}
use Rattle.std.specs.Int.{w8, cast_unsigned, cast_signed, rotate_right}
use Rattle.std.specs.Prelude.{bit_xor}
use Rattle.std.specs.Option.{option_eq}
use Rattle.std.specs.Ordering.{int_eq}
use Rattle.ht_map.specs.Gray.{level_at, bits_at}
use Rattle.ht_map.specs.Axes.{IsSize, axis_of, index_of}
use Rattle.ht_map.proofs.AxisFacts.{same_option, sound, bits_at-level}

by_size : (P : ℕ → Type 0) → P 1 → P 2 → P 4 → P 8 → (size : ℕ) → IsSize size → P size
by_size P one two four eight size (inl e) = subst P (sym e) one
by_size P one two four eight size (inr (inl e)) = subst P (sym e) two
by_size P one two four eight size (inr (inr (inl e))) = subst P (sym e) four
by_size P one two four eight size (inr (inr (inr e))) = subst P (sym e) eight

-- what the code answers at an index
abbrev answer : ℕ → ℕ → Option ℕ
answer size n = cond (nat_lt n size) (Some (bit_xor n (n / 2))) None

answer-on : (size n : ℕ) → n < size → answer size n ≡ Some (bit_xor n (n / 2))
answer-on size n lt = grind (arith, nat_tests)

answer-off : (size n : ℕ) → size ≤ n → answer size n ≡ None
answer-off size n le = grind (arith, nat_tests)

-- the index of a level, written as an octet, as the code finds it
abbrev pub index_at : ℕ → ℕ → ℕ
index_at size octet = rotate_right w8 ((octet + (size - 1)) % 2 ^ 8) 1

-- the answer at a level is the table's
unfoldable agrees : ℕ → ℕ → Bool
agrees size octet = option_eq nat_eq (answer size (index_at size octet)) (bits_at (axis_of size) (cast_signed w8 octet))

all_agree : (size : ℕ) → IsSize size → agree_below (agrees size) (λ _. true) 256 ≡ true
unfolding agrees bits_at axis_of
all_agree = by_size (λ size. agree_below (agrees size) (λ _. true) 256 ≡ true) refl refl refl refl

answer-bits_at : (size : ℕ) (x : ℤ) → IsSize size → FitsSigned w8 x
    → answer size (index_at size (cast_unsigned w8 x)) ≡ bits_at (axis_of size) x
unfolding agrees
answer-bits_at size x ok fits =
    let octet = cast_unsigned w8 x in
    let below : octet < 256 = (Fits-of_z fits).fits in
    same_option _ _ (agree_below_at (agrees size) (λ _. true) 256 octet (all_agree size ok) below)
    ∙ ap (bits_at (axis_of size)) (to_z-of_z w8 x fits)

-- the bits of a level whose index is on the axis
pub bits-on : (size n : ℕ) (x : ℤ) → IsSize size → FitsSigned w8 x → n ≡ index_at size (cast_unsigned w8 x)
    → n < size → Some (bit_xor n (n / 2)) ≡ bits_at (axis_of size) x
bits-on size n x ok fits e lt = sym (answer-on size n lt) ∙ (ap (answer size) e ∙ answer-bits_at size x ok fits)

-- and of one whose index is not
pub bits-off : (size n : ℕ) (x : ℤ) → IsSize size → FitsSigned w8 x → n ≡ index_at size (cast_unsigned w8 x)
    → size ≤ n → None ≡ bits_at (axis_of size) x
bits-off size n x ok fits e le = sym (answer-off size n le) ∙ (ap (answer size) e ∙ answer-bits_at size x ok fits)

sound_axis : (size : ℕ) → IsSize size → sound 8 (axis_of size) ≡ true
unfolding axis_of
sound_axis = by_size (λ size. sound 8 (axis_of size) ≡ true) refl refl refl refl

-- three bits at most name a level
pub bits-bound : (size b : ℕ) (x : ℤ) → IsSize size → Some b ≡ bits_at (axis_of size) x → b < 8
bits-bound size b x ok e = (bits_at-level 8 (axis_of size) x b (sound_axis size ok) (sym e)).0

index_fits : agree_below (λ b. nat_lt (index_of b) 8) (λ _. true) 8 ≡ true
index_fits = refl

pub index_of-bound : (b : ℕ) → b < 8 → index_of b < 8
index_of-bound b lt =
    let e = agree_below_at (λ b. nat_lt (index_of b) 8) (λ _. true) 8 b index_fits lt in
    grind (arith, nat_tests)

-- the level that the code gives an index
abbrev pub level_of_index : ℕ → ℕ → ℤ
level_of_index size n = cast_signed w8 (cast_unsigned w8 (cast_signed w8 (2 * n + 1) -ℤ cast_signed w8 size))

-- the level of the index of some bits is the table's
unfoldable level_agrees : ℕ → ℕ → Bool
level_agrees size b = int_eq (level_of_index size (index_of b)) (level_at (axis_of size) b)

levels_agree : (size : ℕ) → IsSize size → agree_below (level_agrees size) (λ _. true) size ≡ true
unfolding level_agrees level_at axis_of
levels_agree = by_size (λ size. agree_below (level_agrees size) (λ _. true) size ≡ true) refl refl refl refl

pub level-of-bits : (size b n : ℕ) → IsSize size → b < size → n ≡ index_of b → level_of_index size n ≡ level_at (axis_of size) b
unfolding level_agrees
level-of-bits size b n ok lt e =
    ap (level_of_index size) e
    ∙ (Decides-int_eq _ _).0 (agree_below_at (level_agrees size) (λ _. true) size b (levels_agree size ok) lt)

pub ruleset gray_code = (bits-on, bits-off, bits-bound, index_of-bound, level-of-bits)
