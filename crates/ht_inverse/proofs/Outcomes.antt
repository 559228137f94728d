-- What scrambled bits come to.
use Rattle.std.proofs.Common.{◌≡◌, ◌∷◌, ℕ, List, [], length, take, drop, replicate, Bool, true, false, true≢false, refl, sym, ap, ◌∙◌}
use Rattle.std.specs.Prelude.{◌≢◌, not, if◌then◌else◌}
use Rattle.std.specs.List.{list_all}
use Rattle.std.proofs.lemmas.Bool.{and_parts, cases_Bool, cond-false}
use Rattle.std.proofs.Common.{inl, inr}
use Rattle.ht_bits.specs.Bits.{octets_of}
use Rattle.ht_scramble.specs.Sequence.{scrambled, seed_of}
use Rattle.ht_inverse.specs.declared.outcome.Outcome.TheVariants.{Octets, SeedZero}
use Rattle.ht_inverse.specs.Decoding.{outcome_of}

-- bits that are all 0 are zeros
pub zero-test : (bits : List Bool) → list_all not bits ≡ true → bits ≡ replicate (length bits) false
zero-test [] e = refl
zero-test (true ∷ bits) e = absurd (let parts = and_parts false (list_all not bits) e in true≢false (sym parts.0))
zero-test (false ∷ bits) e = ap (λ (xs : List Bool). false ∷ xs) (zero-test bits (and_parts true (list_all not bits) e).1)

-- seven zeros are no beginning
pub zero-is : (bits : List Bool) → take 7 bits ≡ replicate 7 false → outcome_of bits ≡ SeedZero
unfolding outcome_of
zero-is bits zeros = ap (λ (first : List Bool). if list_all not first then SeedZero else Octets (octets_of (drop 16 (scrambled (seed_of first) bits)))) zeros

-- any other seven bits give a seed
pub octets-is : (bits : List Bool) → length (take 7 bits) ≡ 7 → take 7 bits ≢ replicate 7 false
    → outcome_of bits ≡ Octets (octets_of (drop 16 (scrambled (seed_of (take 7 bits)) bits)))
unfolding outcome_of
octets-is bits seven some = elim (cases_Bool (list_all not (take 7 bits))) [
  | inl all ↦ absurd (some (zero-test (take 7 bits) all ∙ ap (λ (n : ℕ). replicate n false) seven))
  | inr other ↦ cond-false (list_all not (take 7 bits)) SeedZero (Octets (octets_of (drop 16 (scrambled (seed_of (take 7 bits)) bits)))) other
]
