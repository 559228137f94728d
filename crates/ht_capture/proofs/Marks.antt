-- The marks of erased subcarriers as bits of a number.
use Rattle.std.proofs.Common.{◌≡◌, ℕ, suc, ◌+◌, ◌*◌, ◌^◌, ◌<◌, nat_eq, true, false, max, ap, ◌∙◌, arith}
use Rattle.std.proofs.lemmas.Nat.{or_disjoint}
use Rattle.std.proofs.Math.Nat.{two-pow-succ}
use Rattle.std.proofs.lemmas.Nat.Bits.{and_pow, bit_at_above, bit_at_or, bit_at-pow_other, bit_at-pow_same}
use Rattle.std.specs.Int.{bit_at}
use Rattle.std.specs.Int.Bits.{bit_or}
use Rattle.ht_capture.specs.Files.{is_erased}

pub twice : (n : ℕ) → 2 ^ (n + 1) ≡ 2 ^ n + 2 ^ n
twice n = let z : n + 1 ≡ suc n = omega arith in ap (λ k. 2 ^ k) z ∙ two-pow-succ n

-- a mark above all others is added
pub or_above : (e n : ℕ) → e < 2 ^ n → bit_or e (2 ^ n) ≡ e + 2 ^ n
or_above e n low =
    let zeros : 0 * 2 ^ n ≡ 0 = omega arith in
    or_disjoint e (2 ^ n) (and_pow e n ∙ (ap (λ b. b * 2 ^ n) (bit_at_above e n n low (omega arith)) ∙ zeros))

-- no mark stands above all
pub clear_above : (e n : ℕ) → e < 2 ^ n → is_erased e n ≡ false
clear_above e n low = ap (λ (b : ℕ). nat_eq b 1) (bit_at_above e n n low (omega arith))

-- the mark that was set
pub set_now : (e n : ℕ) → e < 2 ^ n → is_erased (bit_or e (2 ^ n)) n ≡ true
set_now e n low =
    ap (λ (b : ℕ). nat_eq b 1) (bit_at_or e (2 ^ n) n)
    ∙ (ap (λ (b : ℕ). nat_eq (max b (bit_at (2 ^ n) n)) 1) (bit_at_above e n n low (omega arith)) ∙ ap (λ (b : ℕ). nat_eq (max 0 b) 1) (bit_at-pow_same n))

max_none : (n : ℕ) → max n 0 ≡ n
max_none n = omega arith

-- the marks below it stay
pub set_before : (e n i : ℕ) → i < n → is_erased (bit_or e (2 ^ n)) i ≡ is_erased e i
set_before e n i lt =
    let other : i ≡ n → ⊥ = λ same. absurd (omega (arith, same, lt)) in
    ap (λ (b : ℕ). nat_eq b 1) (bit_at_or e (2 ^ n) i ∙ (ap (λ (b : ℕ). max (bit_at e i) b) (bit_at-pow_other n i other) ∙ max_none (bit_at e i)))
