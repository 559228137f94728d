-- How many octets a frame is decoded to.
use Rattle.std.proofs.Common.{◌≡◌, ℕ, ◌+◌, ◌-◌, ◌*◌, ℤ, List, [], length, take, drop, sym, ◌∙◌, ap, Bool, true, false, true≢false, arith, inl, inr, length-drop}
use Rattle.std.specs.Prelude.{not, if◌then◌else◌}
use Rattle.std.specs.List.{list_all}
use Rattle.std.proofs.lemmas.Bool.{cases_Bool, cond-false}
use Rattle.std.proofs.lemmas.List.FromFn.{length-map-range_with_len}
use Rattle.ht_bits.specs.Bits.{bits_of, octets_of}
use Rattle.ht_bits.proofs.Octets.{bits_of-octets_of, length-bits_of}
use Rattle.ht_rate.specs.declared.rates.Rate.{Rate}
use Rattle.ht_scramble.specs.Sequence.{scrambled, seed_of}
use Rattle.ht_scramble.proofs.Lists.{length-scrambled_from}
use Rattle.ht_inverse.specs.declared.outcome.Outcome.{Outcome}
use Rattle.ht_inverse.specs.declared.outcome.Outcome.TheVariants.{Octets, SeedZero}
use Rattle.ht_inverse.specs.Decoding.{decoded_frame, outcome_of, scrambled_bits}
use Rattle.ht_soft.specs.Frames.{soft_decoded_frame}

-- the octets, if there are any
octets_in : Outcome → List ℕ
octets_in (Octets octets) = octets
octets_in SeedZero = []

has_octets : Outcome → Bool
has_octets (Octets octets) = true
has_octets SeedZero = false

-- each eight bits are an octet
length-octets_of : (n : ℕ) (bits : List Bool) → length bits ≡ 8 * n → length (octets_of bits) ≡ n
length-octets_of n bits size =
    let back : bits_of (octets_of bits) ≡ bits = bits_of-octets_of bits (omega (arith, size)) in
    omega (arith, size, length-bits_of (octets_of bits), ap (λ (xs : List Bool). length xs) back)

-- the octets behind SERVICE
behind_service : List Bool → List ℕ
behind_service bits = octets_of (drop 16 (scrambled (seed_of (take 7 bits)) bits))

length-behind_service : (n : ℕ) (bits : List Bool) → length bits ≡ 16 + 8 * n → length (behind_service bits) ≡ n
unfolding behind_service
length-behind_service n bits size =
    let s = seed_of (take 7 bits) in
    let whole : length (scrambled s bits) ≡ length bits = length-scrambled_from s 0 bits in
    let rest : length (drop 16 (scrambled s bits)) ≡ length (scrambled s bits) - 16 = length-drop 16 (scrambled s bits) in
    length-octets_of n (drop 16 (scrambled s bits)) (omega (arith, size, whole, rest))

-- bits that come to octets come to as many as they have behind SERVICE
pub length-outcome : (n : ℕ) (bits : List Bool) (octets : List ℕ) → length bits ≡ 16 + 8 * n → outcome_of bits ≡ Octets octets → length octets ≡ n
unfolding outcome_of behind_service octets_in has_octets
length-outcome n bits octets size is = elim (cases_Bool (list_all not (take 7 bits))) [
  | inl all ↦ absurd (true≢false (sym (ap (λ (o : Outcome). has_octets o) is)
      ∙ ap (λ (b : Bool). has_octets (if b then SeedZero else Octets (octets_of (drop 16 (scrambled (seed_of (take 7 bits)) bits))))) all))
  | inr other ↦
      let found : outcome_of bits ≡ Octets (behind_service bits)
      = cond-false (list_all not (take 7 bits)) SeedZero (Octets (octets_of (drop 16 (scrambled (seed_of (take 7 bits)) bits)))) other in
      ap (λ (o : Outcome). length (octets_in o)) (sym is ∙ found) ∙ length-behind_service n bits size
]

pub length-decoded : (r : Rate) (n erased : ℕ) (labels octets : List ℕ)
    → (decoded_frame r n erased labels).outcome ≡ Octets octets → length octets ≡ n
unfolding decoded_frame scrambled_bits
length-decoded r n erased labels octets is =
    length-outcome n (scrambled_bits r n erased labels) octets (length-map-range_with_len _ 0 (16 + 8 * n)) is

pub length-soft_decoded : (r : Rate) (n erased : ℕ) (weights : List ℤ) (octets : List ℕ)
    → (soft_decoded_frame r n erased weights).outcome ≡ Octets octets → length octets ≡ n
unfolding soft_decoded_frame
length-soft_decoded r n erased weights octets is =
    length-outcome n _ octets (length-map-range_with_len _ 0 (16 + 8 * n)) is
