-- A weight by which of the two distances is the greater.
use Rattle.std.proofs.Common.{◌≡◌, ℕ, zero, suc, ◌-◌, ◌<◌, ◌≤◌, ℤ, pos, negsuc, ◌-ℤ◌, neg_ℤ, unsigned_abs, min, sym, ap, ◌∙◌, arith}
use Rattle.std.proofs.lemmas.Int.{ints}
use Rattle.ht_soft.specs.Weights.{cut, heaviest, weight_of}

below-zero : (a b : ℕ) → a < b → pos a -ℤ pos b ≡ negsuc (b - a - 1)
below-zero a b lt = omega (arith, ints)

above-zero : (a b : ℕ) → b ≤ a → pos a -ℤ pos b ≡ pos (a - b)
above-zero a b le = omega (arith, ints)

one-more : (n : ℕ) → 0 < n → negsuc (min (n - 1) 65534) ≡ neg_ℤ (pos (min n 65535))
one-more zero some = absurd (omega arith)
one-more (suc n) some =
    let same : min (suc n) 65535 ≡ suc (min n 65534) = omega arith in
    let less : suc n - 1 ≡ n = omega arith in
    ap (λ k. negsuc (min k 65534)) less ∙ sym (ap (λ k. neg_ℤ (pos k)) same)

pub weight-less : (zero one : ℕ) → zero < one → weight_of zero one ≡ neg_ℤ (pos (min (one - zero) heaviest))
unfolding weight_of
weight-less a b lt = ap cut (below-zero a b lt) ∙ one-more (b - a) (omega arith)

pub weight-more : (zero one : ℕ) → one ≤ zero → weight_of zero one ≡ pos (min (zero - one) heaviest)
unfolding weight_of
weight-more a b le = ap cut (above-zero a b le)

cut-small : (z : ℤ) → unsigned_abs (cut z) ≤ heaviest
cut-small (pos n) = omega arith
cut-small (negsuc n) = omega arith

pub weight-small : (zero one : ℕ) → unsigned_abs (weight_of zero one) ≤ heaviest
unfolding weight_of
weight-small a b = cut-small (pos a -ℤ pos b)

pub ruleset signs = (weight-less, weight-more, weight-small)
