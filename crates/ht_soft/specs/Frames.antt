-- What the weights of a frame are decoded to, as a function (IEEE Std 802.11-2012, clauses 20.3.11.2 to 20.3.11.6
-- backwards). There is a weight for each label bit, in the order symbol, data subcarrier, stream, bit.
use Rattle.std.specs.Prelude.{ℕ, ℤ, pos, List, [], map, sum, Bool}
use Rattle.std.specs.List.{range_with_len}
use Rattle.ht_rate.specs.declared.rates.Rate.{Rate}
use Rattle.ht_rate.specs.Rates.{encoders_of, pattern_of, steps_of}
use Rattle.ht_viterbi.specs.Decoded.{cheapest}
use Rattle.ht_viterbi.specs.Inputs.{cost_of, weight_cost}
use Rattle.ht_viterbi.specs.declared.codeword.Cheapest.{Cheapest}
use Rattle.ht_inverse.specs.Decoding.{joined_bits, outcome_of}
use Rattle.ht_inverse.specs.Received.{values_of}
use Rattle.ht_inverse.specs.Shares.{AreOfEncoders}
use Rattle.ht_soft.specs.declared.soft_decoded.SoftDecoded.{SoftDecoded}

-- the weights of encoder j's coded bits, each that of the label bit where it lands: 0 on an erased subcarrier
unfoldable pub weights_of : Rate → ℕ → ℕ → List ℤ → ℕ → List ℤ
weights_of r octets erased weights j = values_of (pos 0) r octets erased weights j

-- encoder j's input with its tail: the first of the terminated inputs that cost least at these weights
unfoldable pub soft_input_of : Rate → ℕ → ℕ → List ℤ → ℕ → List Bool
soft_input_of r octets erased weights j = cheapest weight_cost (steps_of r octets) (pattern_of r) (weights_of r octets erased weights j)

-- what that input costs
unfoldable pub soft_cost_at : Rate → ℕ → ℕ → List ℤ → ℕ → ℕ
soft_cost_at r octets erased weights j =
    cost_of weight_cost (pattern_of r) (weights_of r octets erased weights j) (soft_input_of r octets erased weights j)

-- the codeword of encoder j
unfoldable pub soft_codeword_of : Rate → ℕ → ℕ → List ℤ → ℕ → Cheapest
soft_codeword_of r octets erased weights j = record {
  input = soft_input_of r octets erased weights j;
  cost = soft_cost_at r octets erased weights j;
}

-- in place of the second codeword where there is none
abbrev pub no_soft_codeword : Cheapest
no_soft_codeword = record { input = []; cost = 0 }

-- the codewords of a frame
abbrev pub AreSoftCodewords : Rate → ℕ → ℕ → List ℤ → Cheapest → Cheapest → Type 0
AreSoftCodewords r octets erased weights = AreOfEncoders r (soft_codeword_of r octets erased weights) no_soft_codeword

-- the outcome of a frame, and the costs of its codewords together
unfoldable pub soft_decoded_frame : Rate → ℕ → ℕ → List ℤ → SoftDecoded
soft_decoded_frame r octets erased weights = record {
  outcome = outcome_of (joined_bits r octets (soft_input_of r octets erased weights));
  cost = sum (map (soft_cost_at r octets erased weights) (range_with_len 0 (encoders_of r)));
}
