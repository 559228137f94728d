-- Numbers of two octets, and numbers that are other ones.
use Rattle.std.proofs.Common.{◌≡◌, inl, inr, ℕ, ◌+◌, ◌*◌, ◌/◌, ◌%◌, ◌^◌, ◌<◌, List, [], ◌∷◌, length, nat_eq, false, ap, ◌∙◌, arith}
use Rattle.std.proofs.lemmas.Bool.{cases_lt}
use Rattle.std.proofs.lemmas.Bool.Decides.{nat_tests}
use Rattle.byteorder.specs.Endian.{big_bytes, big_number}
use Rattle.ht_fields.specs.Tests.{AreBytes}

pub other_number : (a b : ℕ) → nat_eq a b ≡ false → (a ≡ b → ⊥)
other_number a b e same = grind (arith, nat_tests)

pair_number : (x y : ℕ) → big_number 2 (x ∷ y ∷ []) ≡ x * 256 + y
pair_number x y = omega arith

pair_back : (x y : ℕ) → x < 256 → y < 256 → big_bytes 2 (big_number 2 (x ∷ y ∷ [])) ≡ x ∷ y ∷ []
pair_back x y f g =
    let n = big_number 2 (x ∷ y ∷ []) in
    let is : n ≡ x * 256 + y = pair_number x y in
    let high : n / 256 % 256 ≡ x = omega (arith, is, f, g) in
    let low : n % 256 ≡ y = omega (arith, is, g) in
    ap (λ (z : ℕ). z ∷ n % 256 ∷ []) high ∙ ap (λ (z : ℕ). x ∷ z ∷ []) low

pub pair : (x : List ℕ) → length x ≡ 2 → AreBytes x → (big_number 2 x < 2 ^ 16) × (big_bytes 2 (big_number 2 x) ≡ x)
pair [] size bytes = absurd (omega (arith, size))
pair (a ∷ []) size bytes = absurd (omega (arith, size))
pair (a ∷ b ∷ []) size bytes = (omega (arith, pair_number a b, bytes 0, bytes 1), pair_back a b (bytes 0) (bytes 1))
pair (a ∷ b ∷ c ∷ x) size bytes = absurd (omega (arith, size))

pub still_less : (a b : ℕ) → a < b → (a + 1 ≡ b → ⊥) → a + 1 < b
still_less a b lt other = elim (cases_lt (a + 1) b) [
  | inl less ↦ less
  | inr more ↦ let same : a + 1 ≡ b = omega (arith, lt, more) in absurd (other same)
]
