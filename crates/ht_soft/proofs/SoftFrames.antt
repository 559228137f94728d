-- Codewords of a frame of weights: what they are, their bits and their costs.
use Rattle.std.proofs.Common.{◌≡◌, ℕ, ◌+◌, ◌≤◌, ℤ, pos, List, length, map, Bool, refl, sym, ap, ◌∙◌}
use Rattle.std.specs.Prelude.{sum}
use Rattle.std.specs.List.{range_with_len}
use Rattle.std.proofs.lemmas.List.FromFn.{length-map-range_with_len}
use Rattle.ht_rate.specs.declared.rates.Rate.{Rate}
use Rattle.ht_rate.specs.declared.kinds.Pattern.{Pattern}
use Rattle.ht_rate.specs.Rates.{encoders_of, pattern_of, steps_of}
use Rattle.ht_conv.specs.Puncturing.{sent_count}
use Rattle.ht_parse.specs.Encoders.{list_of}
use Rattle.ht_viterbi.specs.Inputs.{IsFound, tail, weight_cost}
use Rattle.ht_viterbi.specs.declared.codeword.Cheapest.{Cheapest}
use Rattle.ht_inverse.specs.Received.{value_at, values_of}
use Rattle.ht_inverse.specs.Decoding.{joined_bits}
use Rattle.ht_inverse.proofs.Codewords.{cheapest-answer, counted-together, inputs-are, joined-same}
use Rattle.ht_soft.specs.Frames.{AreSoftCodewords, no_soft_codeword, soft_codeword_of, soft_cost_at, soft_input_of, weights_of}

-- an encoder has a weight for each bit that is kept of its codeword
pub weights-length : (r : Rate) (octets erased j steps : ℕ) (weights received : List ℤ) (p : Pattern) → steps ≡ steps_of r octets → p ≡ pattern_of r
    → received ≡ values_of (pos 0) r octets erased weights j → length received ≡ sent_count p steps
unfolding values_of
weights-length r octets erased j steps weights received p steps_are p_is are =
    ap (λ (xs : List ℤ). length xs) are
    ∙ (length-map-range_with_len (value_at (pos 0) r erased weights j) 0 (sent_count (pattern_of r) (steps_of r octets))
    ∙ sym (ap (λ (q : Pattern). sent_count q steps) p_is ∙ ap (λ (n : ℕ). sent_count (pattern_of r) n) steps_are))

-- what is decoded is the codeword of its encoder
pub soft-codeword-is : (r : Rate) (octets erased j steps : ℕ) (weights received : List ℤ) (p : Pattern) (c : Cheapest) → steps ≡ steps_of r octets
    → p ≡ pattern_of r → received ≡ values_of (pos 0) r octets erased weights j → tail ≤ steps
    → IsFound weight_cost steps p received c.input c.cost → c ≡ soft_codeword_of r octets erased weights j
unfolding soft_codeword_of soft_input_of soft_cost_at weights_of
soft-codeword-is r octets erased j steps weights received p c steps_are p_is are some found =
    let answer = cheapest-answer weight_cost steps (steps_of r octets) p (pattern_of r) received (values_of (pos 0) r octets erased weights j) c.input c.cost
    steps_are p_is are some found in
    let made : List Bool → ℕ → Cheapest = λ u n. record { input = u; cost = n } in
    ap (λ u. made u c.cost) answer.0 ∙ ap (λ n. made (soft_input_of r octets erased weights j) n) answer.1

-- the bits of a frame are those of its codewords
pub soft-bits : (r : Rate) (octets erased : ℕ) (weights : List ℤ) (first second : Cheapest) → AreSoftCodewords r octets erased weights first second
    → joined_bits r octets (list_of first.input second.input) ≡ joined_bits r octets (soft_input_of r octets erased weights)
unfolding soft_codeword_of
soft-bits r octets erased weights first second are =
    joined-same r octets (list_of first.input second.input) (soft_input_of r octets erased weights)
    (inputs-are r (soft_codeword_of r octets erased weights) no_soft_codeword first second (λ c. c.input) are)

-- their costs together
pub soft-costs : (r : Rate) (octets erased : ℕ) (weights : List ℤ) (first second : Cheapest) → AreSoftCodewords r octets erased weights first second
    → first.cost + second.cost ≡ sum (map (soft_cost_at r octets erased weights) (range_with_len 0 (encoders_of r)))
unfolding soft_codeword_of
soft-costs r octets erased weights first second are =
    counted-together r (encoders_of r) (soft_codeword_of r octets erased weights) no_soft_codeword first second (λ c. c.cost) refl refl are
