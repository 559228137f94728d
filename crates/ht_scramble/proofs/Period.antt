-- The register comes back after 127 bits, and not before.
use Rattle.std.proofs.Common.{◌≡◌, ℕ, zero, suc, ◌+◌, ◌*◌, ◌/◌, ◌%◌, ◌<◌, Bool, true, not, ◌&&◌, ◌||◌, ◌==◌, List, [], ◌∷◌, inl, inr, refl, ap, sym, ◌∙◌, arith}
use Rattle.std.proofs.lemmas.Bool.{agree_below, eqb-true, and_parts, false≢true, eq-eqb, or_cases}
use mathlib.Core.Bool.{xor}
use Rattle.ht_bits.specs.Bits.{number_of}
use Rattle.ht_scramble.specs.Sequence.{IsSeed, delayed, sequence}
use Rattle.ht_scramble.specs.Register.{register_at}
use Rattle.ht_scramble.proofs.Shifts.{output, with_bit, each, latest_first, output-register_at, register_at-suc}
use Rattle.ht_scramble.proofs.Shifts.{register_at-is, register_at-lt, register_at-start, delayed-seven}

stepped : ℕ → ℕ → ℕ
stepped zero n = n
stepped (suc k) n = stepped k (with_bit n (output n))

register_at-later : (seed t k : ℕ) → register_at seed (t + k) ≡ stepped k (register_at seed t)
unfolding stepped
register_at-later seed t zero = let e : t + 0 ≡ t = omega arith in ap (λ m. register_at seed m) e
register_at-later seed t (suc k) =
    let e : t + suc k ≡ suc t + k = omega arith in
    ap (λ m. register_at seed m) e
    ∙ register_at-later seed (suc t) k
    ∙ ap (λ m. stepped k m) (register_at-suc seed t ∙ ap (λ b. with_bit (register_at seed t) b) (sym (output-register_at seed t)))

returns_after : ℕ → Bool
returns_after n = stepped 127 n == n

period_test : agree_below returns_after (λ _. true) 128 ≡ true
unfolding xor returns_after stepped with_bit output
period_test = refl

register_at-period : (seed t : ℕ) → register_at seed (t + 127) ≡ register_at seed t
unfolding returns_after
register_at-period seed t =
    register_at-later seed t 127
    ∙ eqb-true _ _ (each returns_after period_test (register_at seed t) (register_at-lt seed t))

pub sequence-period : (seed t : ℕ) → sequence seed (t + 127) ≡ sequence seed t
sequence-period seed t =
    sym (output-register_at seed (t + 127)) ∙ ap output (register_at-period seed t) ∙ output-register_at seed t

sequence-periods : (seed t k : ℕ) → sequence seed (t + 127 * k) ≡ sequence seed t
sequence-periods seed t zero = let e : t + 127 * 0 ≡ t = omega arith in ap (λ n. sequence seed n) e
sequence-periods seed t (suc k) =
    let e : t + 127 * suc k ≡ (t + 127 * k) + 127 = omega arith in
    ap (λ n. sequence seed n) e ∙ sequence-period seed (t + 127 * k) ∙ sequence-periods seed t k

pub sequence-rest : (seed t : ℕ) → sequence seed (t % 127) ≡ sequence seed t
sequence-rest seed t =
    let e : t % 127 + 127 * (t / 127) ≡ t = omega arith in
    sym (sequence-periods seed (t % 127) (t / 127)) ∙ ap (λ n. sequence seed n) e

-- ---- no shorter period
never : ℕ → ℕ → ℕ → Bool
never target n zero = true
never target n (suc k) = not (n == target) && never target (with_bit n (output n)) k

never-at : (target n k j : ℕ) → never target n k ≡ true → j < k → stepped j n ≡ target → ⊥
unfolding never stepped
never-at target n zero j test lt same = absurd (omega arith)
never-at target n (suc k) zero test lt same =
    let differs : not (n == target) ≡ true = (and_parts (not (n == target)) (never target (with_bit n (output n)) k) test).0 in
    false≢true (ap not (sym (eq-eqb n target same)) ∙ differs)
never-at target n (suc k) (suc j) test lt same =
    never-at target (with_bit n (output n)) k j (and_parts (not (n == target)) (never target (with_bit n (output n)) k) test).1 (omega arith) same

apart : ℕ → Bool
apart n = n == 0 || never (stepped 7 n) (stepped 8 n) 126

apart_test : agree_below apart (λ _. true) 128 ≡ true
unfolding xor apart never stepped with_bit output
apart_test = refl

-- seven bits of a sequence, the latest one first
seven_from : (ℕ → Bool) → ℕ → List Bool
seven_from f t = f (t + 6) ∷ f (t + 5) ∷ f (t + 4) ∷ f (t + 3) ∷ f (t + 2) ∷ f (t + 1) ∷ f (t + 0) ∷ []

seven-same : (f g : ℕ → Bool) (s t : ℕ) → ((k : ℕ) → f (s + k) ≡ g (t + k)) → seven_from f s ≡ seven_from g t
unfolding seven_from
seven-same f g s t same =
    let p0 : f (s + 0) ≡ g (t + 0) = same 0 in
    let p1 : f (s + 1) ≡ g (t + 1) = same 1 in
    let p2 : f (s + 2) ≡ g (t + 2) = same 2 in
    let p3 : f (s + 3) ≡ g (t + 3) = same 3 in
    let p4 : f (s + 4) ≡ g (t + 4) = same 4 in
    let p5 : f (s + 5) ≡ g (t + 5) = same 5 in
    let p6 : f (s + 6) ≡ g (t + 6) = same 6 in
    cc

latest_first-seven : (seed t : ℕ) → latest_first seed t ≡ seven_from (delayed seed) t
unfolding latest_first seven_from
latest_first-seven seed t =
    let e0 : t ≡ t + 0 = omega arith in
    let e1 : suc t ≡ t + 1 = omega arith in
    let e2 : suc (suc t) ≡ t + 2 = omega arith in
    let e3 : suc (suc (suc t)) ≡ t + 3 = omega arith in
    let e4 : suc (suc (suc (suc t))) ≡ t + 4 = omega arith in
    let e5 : suc (suc (suc (suc (suc t)))) ≡ t + 5 = omega arith in
    let e6 : suc (suc (suc (suc (suc (suc t))))) ≡ t + 6 = omega arith in
    let d0 = ap (delayed seed) e0 in
    let d1 = ap (delayed seed) e1 in
    let d2 = ap (delayed seed) e2 in
    let d3 = ap (delayed seed) e3 in
    let d4 = ap (delayed seed) e4 in
    let d5 = ap (delayed seed) e5 in
    let d6 = ap (delayed seed) e6 in
    cc

-- the register is the last seven bits of the sequence
register_at-seven : (seed t : ℕ) → register_at seed (t + 7) ≡ number_of (seven_from (sequence seed) t)
register_at-seven seed t =
    register_at-is seed (t + 7)
    ∙ ap number_of (latest_first-seven seed (t + 7))
    ∙ ap number_of (seven-same (delayed seed) (sequence seed) (t + 7) t
    (λ k. let e : (t + 7) + k ≡ (t + k) + 7 = omega arith in ap (delayed seed) e ∙ delayed-seven seed (t + k)))

-- where the sequence came again after d places, so would the register
register_at-again : (seed d : ℕ) → ((t : ℕ) → sequence seed (t + d) ≡ sequence seed t) → register_at seed (d + 7) ≡ register_at seed 7
register_at-again seed d same =
    register_at-seven seed d
    ∙ ap number_of (seven-same (sequence seed) (sequence seed) d 0
    (λ k. let e : d + k ≡ k + d = omega arith in let f : k ≡ 0 + k = omega arith in ap (sequence seed) e ∙ same k ∙ ap (sequence seed) f))
    ∙ sym (register_at-seven seed 0)

from_seed : (seed k : ℕ) → IsSeed seed → register_at seed k ≡ stepped k seed
from_seed seed k valid =
    let e : k ≡ 0 + k = omega arith in
    ap (register_at seed) e ∙ register_at-later seed 0 k ∙ ap (stepped k) (sym (register_at-start seed (omega arith)))

walk_test : (seed : ℕ) → IsSeed seed → never (stepped 7 seed) (stepped 8 seed) 126 ≡ true
unfolding apart
walk_test seed valid =
    elim (or_cases (seed == 0) (never (stepped 7 seed) (stepped 8 seed) 126) (each apart apart_test seed (omega arith))) [
      | inl zeros ↦ absurd (omega (arith, eqb-true seed 0 zeros))
      | inr test ↦ test
    ]

pub sequence-apart : (seed d : ℕ) → IsSeed seed → 0 < d → d < 127 → ((t : ℕ) → sequence seed (t + d) ≡ sequence seed t) → ⊥
sequence-apart seed zero valid some few same = absurd (omega arith)
sequence-apart seed (suc j) valid some few same =
    let e : 8 + j ≡ suc j + 7 = omega arith in
    never-at (stepped 7 seed) (stepped 8 seed) 126 j (walk_test seed valid) (omega arith)
    (ap (stepped j) (sym (from_seed seed 8 valid))
    ∙ sym (register_at-later seed 8 j)
    ∙ ap (register_at seed) e
    ∙ register_at-again seed (suc j) same
    ∙ from_seed seed 7 valid)
