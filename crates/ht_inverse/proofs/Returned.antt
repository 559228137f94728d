-- Scrambled octets come back.
use Rattle.std.proofs.Common.{◌≡◌, ℕ, ◌<◌, ◌≤◌, ◌↔◌, List, [], ◌∷◌, ◌++◌, length, take, drop, replicate, get_or, Bool, true, false, true≢false}
use Rattle.std.proofs.Common.{inl, inr, refl, sym, ap, ◌∙◌, arith}
use Rattle.std.specs.Prelude.{◌≢◌, not}
use Rattle.std.specs.List.{list_all}
use mathlib.Core.Bool.{xor}
use Rattle.std.proofs.lemmas.Bool.{cases_Bool}
use Rattle.std.proofs.lemmas.List.{length-take-le}
use Rattle.ht_bits.specs.Bits.{bits_of, octets_of}
use Rattle.ht_bits.proofs.Octets.{octets_of-bits_of}
use Rattle.ht_scramble.specs.Sequence.{IsSeed, first_seven, scrambled, seed_of, sequence}
use Rattle.ht_scramble.proofs.Lists.{scrambled_from-twice}
use Rattle.ht_scramble.proofs.Recovered.{seed_of-first_seven}
use Rattle.ht_inverse.specs.declared.outcome.Outcome.TheVariants.{Octets, SeedZero}
use Rattle.ht_inverse.specs.Decoding.{outcome_of}
use Rattle.ht_inverse.proofs.Outcomes.{octets-is, zero-is, zero-test}

keeps : (b : Bool) → xor false b ≡ b
unfolding xor
keeps false = refl
keeps true = refl

abbrev seven : (ℕ → Bool) → List Bool
seven f = f 0 ∷ f 1 ∷ f 2 ∷ f 3 ∷ f 4 ∷ f 5 ∷ f 6 ∷ []

same-seven : (f g : ℕ → Bool) → ((k : ℕ) → f k ≡ g k) → seven f ≡ seven g
same-seven f g is =
    ap (λ b. b ∷ f 1 ∷ f 2 ∷ f 3 ∷ f 4 ∷ f 5 ∷ f 6 ∷ []) (is 0)
    ∙ (ap (λ b. g 0 ∷ b ∷ f 2 ∷ f 3 ∷ f 4 ∷ f 5 ∷ f 6 ∷ []) (is 1)
    ∙ (ap (λ b. g 0 ∷ g 1 ∷ b ∷ f 3 ∷ f 4 ∷ f 5 ∷ f 6 ∷ []) (is 2)
    ∙ (ap (λ b. g 0 ∷ g 1 ∷ g 2 ∷ b ∷ f 4 ∷ f 5 ∷ f 6 ∷ []) (is 3)
    ∙ (ap (λ b. g 0 ∷ g 1 ∷ g 2 ∷ g 3 ∷ b ∷ f 5 ∷ f 6 ∷ []) (is 4)
    ∙ (ap (λ b. g 0 ∷ g 1 ∷ g 2 ∷ g 3 ∷ g 4 ∷ b ∷ f 6 ∷ []) (is 5)
    ∙ ap (λ b. g 0 ∷ g 1 ∷ g 2 ∷ g 3 ∷ g 4 ∷ g 5 ∷ b ∷ []) (is 6))))))

-- SERVICE begins with seven zeros, so the first bits are those of the sequence
begins : (seed : ℕ) (rest : List Bool) → take 7 (scrambled seed (replicate 16 false ++ rest)) ≡ first_seven seed
begins seed rest = same-seven (λ k. xor false (sequence seed k)) (sequence seed) (λ k. keeps (sequence seed k))

-- and no seed's sequence begins with seven zeros: they would give the seed 0
some-seven : (seed : ℕ) → IsSeed seed → first_seven seed ≢ replicate 7 false
unfolding xor
some-seven seed is zeros =
    let none : seed_of (replicate 7 false) ≡ 0 = refl in
    let same : seed ≡ 0 = sym (seed_of-first_seven seed is) ∙ (ap seed_of zeros ∙ none) in
    let low = is.0 in
    omega (arith, same, low)

pub returned : (seed : ℕ) (octets : List ℕ) → IsSeed seed → ((k : ℕ) → k < length octets → get_or octets k 0 < 256)
    → outcome_of (scrambled seed (replicate 16 false ++ bits_of octets)) ≡ Octets octets
returned seed octets is bytes =
    let plain = replicate 16 false ++ bits_of octets in
    let bits = scrambled seed plain in
    let first : take 7 bits ≡ first_seven seed = begins seed (bits_of octets) in
    let seed_is : seed_of (take 7 bits) ≡ seed = ap seed_of first ∙ seed_of-first_seven seed is in
    octets-is bits (ap (λ (xs : List Bool). length xs) first) (λ zeros. some-seven seed is (sym first ∙ zeros))
    ∙ (ap (λ (s : ℕ). Octets (octets_of (drop 16 (scrambled s bits)))) seed_is
    ∙ (ap (λ (b : List Bool). Octets (octets_of (drop 16 b))) (scrambled_from-twice seed 0 plain)
    ∙ ap (λ (os : List ℕ). Octets os) (octets_of-bits_of octets bytes)))

octets-seed : (octets : List ℕ) → Octets octets ≡ SeedZero → ⊥
octets-seed octets e = cc

pub seed_zero : (bits : List Bool) → 7 ≤ length bits → (outcome_of bits ≡ SeedZero) ↔ (take 7 bits ≡ replicate 7 false)
seed_zero bits enough = (
  λ is. elim (cases_Bool (list_all not (take 7 bits))) [
    | inl all ↦ zero-test (take 7 bits) all ∙ ap (λ (n : ℕ). replicate n false) (length-take-le 7 bits enough)
    | inr other ↦
        let some : take 7 bits ≢ replicate 7 false = λ zeros. true≢false (sym (ap (λ (xs : List Bool). list_all not xs) zeros) ∙ other) in
        absurd (octets-seed _ (sym (octets-is bits (length-take-le 7 bits enough) some) ∙ is))
  ],
  λ zeros. zero-is bits zeros,
)
