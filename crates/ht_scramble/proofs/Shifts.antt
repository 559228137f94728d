-- What the register gives and how it is shifted, and the recurrence.
use Rattle.std.proofs.Common.{◌≡◌, ℕ, zero, suc, ◌+◌, ◌-◌, ◌*◌, ◌/◌, ◌%◌, ◌<◌, [], ◌∷◌, List, Bool, true, false}
use Rattle.std.proofs.Common.{◌==◌, refl, ap, sym, ◌∙◌, subst, add_comm, arith, lit<, bit_and, bit_or, bit_xor}
use Rattle.std.specs.Int.{from_bool}
use Rattle.std.proofs.lemmas.Bool.{agree_below, agree_below_at, eqb-true}
use mathlib.Core.Bool.{xor}
use Rattle.ht_bits.specs.Bits.{bit, number_of}
use Rattle.ht_bits.proofs.Octets.{bit-number_of, number_of-lt, from_bool-lt}
use Rattle.ht_scramble.specs.Sequence.{delayed, sequence}
use Rattle.ht_scramble.specs.Register.{register_at}

-- the seven bits of the register, the latest one first
abbrev latest : ℕ → ℕ → ℕ → List Bool → List Bool
latest zero seed t earlier = earlier
latest (suc count) seed t earlier = latest count seed (suc t) (delayed seed t ∷ earlier)

unfoldable pub latest_first : ℕ → ℕ → List Bool
latest_first seed t = latest 7 seed t []

pub register_at-is : (seed t : ℕ) → register_at seed t ≡ number_of (latest_first seed t)
unfolding register_at latest_first
register_at-is seed t = refl

pub register_at-lt : (seed t : ℕ) → register_at seed t < 128
unfolding register_at latest_first
register_at-lt seed t = number_of-lt (latest_first seed t)

-- a test of each register
pub each : (p : ℕ → Bool) → agree_below p (λ _. true) 128 ≡ true → (n : ℕ) → n < 128 → p n ≡ true
each p test n lt = agree_below_at p (λ _. true) 128 n test lt

-- ---- the start
is_start : ℕ → Bool
is_start n = register_at n 0 == n

start_test : agree_below is_start (λ _. true) 128 ≡ true
unfolding is_start register_at delayed
start_test = refl

-- the register at the start is the seed
pub register_at-start : (seed : ℕ) → seed < 128 → seed ≡ register_at seed 0
unfolding is_start
register_at-start seed lt = sym (eqb-true _ _ (each is_start start_test seed lt))

-- ---- the next bit
unfoldable pub output : ℕ → Bool
output n = xor (bit n 6) (bit n 3)

pub output-register_at : (seed t : ℕ) → output (register_at seed t) ≡ sequence seed t
unfolding output sequence delayed register_at latest_first
output-register_at seed t =
    let six : bit (number_of (latest_first seed t)) 6 ≡ delayed seed t = bit-number_of (latest_first seed t) 6 (lit< tt) in
    let three : bit (number_of (latest_first seed t)) 3 ≡ delayed seed (suc (suc (suc t))) = bit-number_of (latest_first seed t) 3 (lit< tt) in
    ap (λ b. xor b (bit (number_of (latest_first seed t)) 3)) six ∙ ap (λ b. xor (delayed seed t) b) three

-- as the code computes it
tapped : ℕ → Bool
tapped n = bit_and (bit_xor (n / 64) (n / 8)) 1 == 1

tapped_test : agree_below tapped output 128 ≡ true
unfolding xor tapped output
tapped_test = refl

pub next_bit-is : (n seed t : ℕ) → n < 128 → n ≡ register_at seed t → (bit_and (bit_xor (n / 64) (n / 8)) 1 == 1) ≡ sequence seed t
unfolding tapped
next_bit-is n seed t lt is = agree_below_at tapped output 128 n tapped_test lt ∙ ap output is ∙ output-register_at seed t

-- ---- the shift
unfoldable pub with_bit : ℕ → Bool → ℕ
with_bit n b = 2 * (n % 64) + from_bool b

pushed : (x a b c d e f g : Bool) → number_of (x ∷ a ∷ b ∷ c ∷ d ∷ e ∷ f ∷ []) ≡ with_bit (number_of (a ∷ b ∷ c ∷ d ∷ e ∷ f ∷ g ∷ [])) x
unfolding with_bit
pushed x a b c d e f g =
    let low = number_of (a ∷ b ∷ c ∷ d ∷ e ∷ f ∷ []) in
    let small : low < 64 = number_of-lt (a ∷ b ∷ c ∷ d ∷ e ∷ f ∷ []) in
    let parts : number_of (a ∷ b ∷ c ∷ d ∷ e ∷ f ∷ g ∷ []) ≡ low + 64 * from_bool g = omega arith in
    let cut : number_of (a ∷ b ∷ c ∷ d ∷ e ∷ f ∷ g ∷ []) % 64 ≡ low = omega (arith, parts, small) in
    ap (λ n. from_bool x + 2 * n) (sym cut) ∙ add_comm (from_bool x) (2 * (number_of (a ∷ b ∷ c ∷ d ∷ e ∷ f ∷ g ∷ []) % 64))

pub register_at-suc : (seed t : ℕ) → register_at seed (suc t) ≡ with_bit (register_at seed t) (sequence seed t)
unfolding register_at sequence
register_at-suc seed t = pushed _ _ _ _ _ _ _ _

shift_in : ℕ → Bool → ℕ
shift_in n b = bit_or (bit_and (n * 2 % 256) 127) (from_bool b)

shift_test : (b : Bool) → agree_below (λ n. shift_in n b == with_bit n b) (λ _. true) 128 ≡ true
unfolding shift_in with_bit
shift_test false = refl
shift_test true = refl

pub shifted-is : (n seed t : ℕ) (b : Bool) (value : ℕ) → n < 128 → value ≡ from_bool b → n ≡ register_at seed t → b ≡ sequence seed t
    → bit_or (bit_and (n * 2 % 256) 127) value ≡ register_at seed (t + 1)
unfolding shift_in
shifted-is n seed t b value lt is was latest =
    ap (λ v. bit_or (bit_and (n * 2 % 256) 127) v) is
    ∙ eqb-true _ _ (each (λ m. shift_in m b == with_bit m b) (shift_test b) n lt)
    ∙ ap (λ m. with_bit m b) was
    ∙ ap (λ c. with_bit (register_at seed t) c) latest
    ∙ sym (register_at-suc seed t)
    ∙ ap (λ m. register_at seed m) next
  where
    next : suc t ≡ t + 1
    next = omega arith

with_bit-lt : (n : ℕ) (b : Bool) → with_bit n b < 128
unfolding with_bit
with_bit-lt n b = omega (arith, from_bool-lt b)

pub shifted-lt : (n : ℕ) (b : Bool) (value : ℕ) → n < 128 → value ≡ from_bool b → bit_or (bit_and (n * 2 % 256) 127) value < 128
unfolding shift_in
shifted-lt n b value lt is =
    subst (λ m. m < 128)
    (sym (ap (λ v. bit_or (bit_and (n * 2 % 256) 127) v) is ∙ eqb-true _ _ (each (λ m. shift_in m b == with_bit m b) (shift_test b) n lt)))
    (with_bit-lt n b)

-- ---- the recurrence
pub delayed-start : (seed i : ℕ) → i < 7 → delayed seed (6 - i) ≡ bit seed i
unfolding delayed
delayed-start seed zero lt = refl
delayed-start seed (suc zero) lt = refl
delayed-start seed (suc (suc zero)) lt = refl
delayed-start seed (suc (suc (suc zero))) lt = refl
delayed-start seed (suc (suc (suc (suc zero)))) lt = refl
delayed-start seed (suc (suc (suc (suc (suc zero))))) lt = refl
delayed-start seed (suc (suc (suc (suc (suc (suc zero)))))) lt = refl
delayed-start seed (suc (suc (suc (suc (suc (suc (suc i))))))) lt = absurd (omega arith)

pub delayed-seven : (seed t : ℕ) → delayed seed (t + 7) ≡ sequence seed t
unfolding sequence
delayed-seven seed t =
    let e : t + 7 ≡ suc (suc (suc (suc (suc (suc (suc t)))))) = omega arith in ap (λ n. delayed seed n) e

pub sequence-next : (seed t : ℕ) → sequence seed t ≡ xor (delayed seed t) (delayed seed (t + 3))
unfolding sequence delayed
sequence-next seed t =
    let e : suc (suc (suc t)) ≡ t + 3 = omega arith in ap (λ n. xor (delayed seed t) (delayed seed n)) e

pub sequence-later : (seed t : ℕ) → sequence seed (t + 7) ≡ xor (sequence seed t) (sequence seed (t + 3))
sequence-later seed t =
    let e : (t + 7) + 3 ≡ (t + 3) + 7 = omega arith in
    sequence-next seed (t + 7)
    ∙ ap (λ b. xor b (delayed seed ((t + 7) + 3))) (delayed-seven seed t)
    ∙ ap (λ b. xor (sequence seed t) b) (ap (λ n. delayed seed n) e ∙ delayed-seven seed (t + 3))
