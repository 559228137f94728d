-- The codeword of a frame.
use Rattle.std.proofs.Common.{◌≡◌, ℕ, ◌+◌, ◌*◌, ◌≤◌, ◌<◌, List, length, take, Bool, false, Option, ap, ◌∙◌, arith, subst, sym}
use Rattle.std.proofs.lemmas.List.{ext_get_or, get_or-take, length-take-le}
use Rattle.ht_rate.specs.declared.kinds.Pattern.{Pattern}
use Rattle.ht_viterbi.specs.declared.codeword.Codeword.{Codeword}
use Rattle.ht_viterbi.specs.Inputs.{IsFound, place_cost, tail}
use Rattle.ht_viterbi.specs.Packed.{word_steps}
use Rattle.ht_clean.specs.Sparse.{input_bit, unpacked}
use Rattle.ht_clean.proofs.Words.{unpacked-at, unpacked-length}
use Rattle.ht_inverse.specs.declared.decoded.Decoded.{Decoded}
use Rattle.ht_inverse.specs.declared.outcome.Outcome.{Outcome}
use Rattle.ht_inverse.specs.Decoding.{outcome_of}
use Rattle.ht_inverse.specs.Words.{Hold, word_bits}
use Rattle.ht_inverse.proofs.Codewords.{cheapest-answer}
use Rattle.ht_inverse.proofs.Descrambled.{word_bits-at, word_bits-length}
use Rattle.ht_clause18.specs.declared.rates.LegacyRate.{LegacyRate}
use Rattle.ht_clause18.specs.Rates.{needed_bits, pattern_of}
use Rattle.ht_legacy_inverse.specs.Decoding.{input_of, legacy_decoded_frame, scrambled_bits}
use Rattle.ht_legacy_inverse.specs.Places.{IsCodewordOf}
use Rattle.ht_legacy_inverse.specs.Received.{received_of}

-- what is decoded is the codeword of the frame
pub codeword-is : (r : LegacyRate) (octets steps : ℕ) (labels : List ℕ) (p : Pattern) (received : List (Option Bool)) (c : Codeword)
    → steps ≡ needed_bits octets → p ≡ pattern_of r → received ≡ received_of r octets labels → tail ≤ steps
    → IsFound place_cost steps p received c.input c.distance → IsCodewordOf r octets labels c
unfolding input_of legacy_decoded_frame
codeword-is r octets steps labels p received c steps_are p_is received_is some found =
    let answer = cheapest-answer place_cost steps (needed_bits octets) p (pattern_of r) received (received_of r octets labels) c.input c.distance
    steps_are p_is received_is some found in
    record { input = answer.0; distance = answer.1 }

-- and its bits in front of the tail come to the frame
pub frame-is : (r : LegacyRate) (octets : ℕ) (labels : List ℕ) (c : Codeword) (outcome : Outcome) (frame : Decoded) → IsCodewordOf r octets labels c
    → outcome ≡ outcome_of (take (16 + 8 * octets) c.input) → frame ≡ record { outcome = outcome; code = c.distance }
    → frame ≡ legacy_decoded_frame r octets labels
unfolding legacy_decoded_frame scrambled_bits
frame-is r octets labels c outcome frame is comes made =
    let of_parts : Outcome → ℕ → Decoded = λ o n. record { outcome = o; code = n } in
    made
    ∙ (ap (λ o. of_parts o c.distance) (comes ∙ ap (λ (u : List Bool). outcome_of (take (16 + 8 * octets) u)) is.input)
    ∙ ap (λ n. of_parts (outcome_of (scrambled_bits r octets labels)) n) is.distance)

-- the bits of an input in words in front of its tail
pub front-is : (p : Pattern) (words items : List ℕ) (octets steps : ℕ) → words ≡ items → steps ≡ needed_bits octets
    → word_bits p false words words (16 + 8 * octets) ≡ take (16 + 8 * octets) (unpacked p items steps)
front-is p words items octets steps same is =
    let count : ℕ = 16 + 8 * octets in
    let u : List Bool = unpacked p items steps in
    let long : length u ≡ steps = unpacked-length p items steps in
    let taken : length (take count u) ≡ count = length-take-le count u (omega (arith, long, is)) in
    let whole : length (word_bits p false words words count) ≡ count = word_bits-length p false words words count in
    ext_get_or false (word_bits p false words words count) (take count u) (whole ∙ sym taken)
    (λ t lt.
    let low : t < count = omega (arith, lt, whole) in
    word_bits-at p false words words count t low
    ∙ (ap (λ (ws : List ℕ). input_bit p ws t) same
    ∙ (sym (unpacked-at p items steps t (omega (arith, low, is))) ∙ sym (get_or-take count u t false low))))

-- and they are in the words
pub front-held : (p : Pattern) (words items : List ℕ) (octets steps : ℕ) → words ≡ items → steps ≡ needed_bits octets
    → steps ≤ word_steps p * length items → Hold p false words words octets
front-held p words items octets steps same is fits =
    subst (λ (ws : List ℕ). 16 + 8 * octets ≤ word_steps p * length ws) (sym same) (omega (arith, fits, is))
