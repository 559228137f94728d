-- The seed from the first seven bits, by a test of all of them.
use Rattle.std.proofs.Common.{◌≡◌, ◌≢◌, ℕ, [], ◌∷◌, List, Bool, true, false, ◌&&◌, ◌||◌, ◌==◌, nat_le, length}
use Rattle.std.proofs.Common.{replicate, Option, Some, None, IsSome, IfSome, refl, ap, subst, sym, ◌∙◌, arith}
use Rattle.std.proofs.lemmas.Bool.{agree_below, agree_below_at, eqb-true, leb-true, and_parts}
use mathlib.Core.Bool.{xor}
use Rattle.ht_bits.specs.Bits.{number_of}
use Rattle.ht_bits.proofs.SameBits.{same_bits, same_bits-true}
use Rattle.ht_scramble.specs.Sequence.{IsSeed, delayed, sequence, first_seven, seed_bits, seed_of}

both : (Bool → Bool) → Bool
both p = p false && p true

both-at : (p : Bool → Bool) → both p ≡ true → (b : Bool) → p b ≡ true
unfolding both
both-at p test false = (and_parts (p false) (p true) test).0
both-at p test true = (and_parts (p false) (p true) test).1

begins : Bool → Bool → Bool → Bool → Bool → Bool → Bool → Bool
begins a b c d e f g = same_bits (first_seven (number_of (seed_bits a b c d e f g))) (a ∷ b ∷ c ∷ d ∷ e ∷ f ∷ g ∷ [])

begins_test : both (λ a. both (λ b. both (λ c. both (λ d. both (λ e. both (λ f. both (λ g. begins a b c d e f g))))))) ≡ true
unfolding xor both begins same_bits sequence delayed
begins_test = refl

begins-true : (a b c d e f g : Bool) → begins a b c d e f g ≡ true
begins-true a b c d e f g =
    both-at _ (both-at _ (both-at _ (both-at _ (both-at _ (both-at _ (both-at _ begins_test a) b) c) d) e) f) g

-- the sequence of the seed begins with the given bits
pub first_seven-seed_of : (first : List Bool) → length first ≡ 7 → first_seven (seed_of first) ≡ first
unfolding begins
first_seven-seed_of (a ∷ b ∷ c ∷ d ∷ e ∷ f ∷ g ∷ []) long = same_bits-true _ _ (begins-true a b c d e f g)
first_seven-seed_of first long = absurd (omega (arith, long))

is_recovered : ℕ → Bool
is_recovered n = seed_of (first_seven n) == n

recovered_test : agree_below is_recovered (λ _. true) 128 ≡ true
unfolding xor is_recovered sequence delayed
recovered_test = refl

-- a seed is the one that its first seven bits give
pub seed_of-first_seven : (seed : ℕ) → IsSeed seed → seed_of (first_seven seed) ≡ seed
unfolding is_recovered
seed_of-first_seven seed valid = eqb-true _ _ (agree_below_at is_recovered (λ _. true) 128 seed recovered_test (omega arith))

-- seven bits that aren't all 0 give a seed
zeros_or_seed : Bool → Bool → Bool → Bool → Bool → Bool → Bool → Bool
zeros_or_seed a b c d e f g =
    let n = number_of (seed_bits a b c d e f g) in
    same_bits (a ∷ b ∷ c ∷ d ∷ e ∷ f ∷ g ∷ []) (replicate 7 false) || (nat_le 1 n && nat_le n 127)

seeds_test : both (λ a. both (λ b. both (λ c. both (λ d. both (λ e. both (λ f. both (λ g. zeros_or_seed a b c d e f g))))))) ≡ true
unfolding xor both zeros_or_seed same_bits
seeds_test = refl

zeros_or_seed-true : (a b c d e f g : Bool) → zeros_or_seed a b c d e f g ≡ true
zeros_or_seed-true a b c d e f g =
    both-at _ (both-at _ (both-at _ (both-at _ (both-at _ (both-at _ (both-at _ seeds_test a) b) c) d) e) f) g

in_range : (zeros : Bool) (n : ℕ) → (zeros || (nat_le 1 n && nat_le n 127)) ≡ true → ¬ (zeros ≡ true) → IsSeed n
in_range true n e not_zeros = absurd (not_zeros refl)
in_range false n e not_zeros = let parts = and_parts _ _ e in (leb-true 1 n parts.0, leb-true n 127 parts.1)

pub seed_of-range : (first : List Bool) → length first ≡ 7 → first ≢ replicate 7 false → IsSeed (seed_of first)
unfolding zeros_or_seed
seed_of-range (a ∷ b ∷ c ∷ d ∷ e ∷ f ∷ g ∷ []) long not_zeros =
    in_range (same_bits (a ∷ b ∷ c ∷ d ∷ e ∷ f ∷ g ∷ []) (replicate 7 false)) (number_of (seed_bits a b c d e f g)) (zeros_or_seed-true a b c d e f g)
    (λ same. not_zeros (same_bits-true _ _ same))
seed_of-range first long not_zeros = absurd (omega (arith, long))

-- ---- the answer
pub at_some : (o : Option ℕ) (n : ℕ) (P : ℕ → Type 0) → IfSome o (λ seed. seed ≡ n) → P n → IfSome o P
at_some None n P is holds = tt
at_some (Some seed) n P is holds = subst P (sym is) holds

pub some_is : (o : Option ℕ) (n other : ℕ) → IsSome o → IfSome o (λ seed. seed ≡ n) → n ≡ other → o ≡ Some other
some_is None n other there is same = cc
some_is (Some seed) n other there is same = ap (λ m. Some m) (is ∙ same)
