-- What a frame's labels are decoded to, as a function (IEEE Std 802.11-2012, clauses 20.3.11.2 to 20.3.11.6 backwards).
use Rattle.std.specs.Prelude.{ℕ, ◌+◌, ◌*◌, ◌/◌, ◌%◌, List, map, take, drop, sum, slice_index_or, Bool, false, not, if◌then◌else◌}
use Rattle.std.specs.List.{list_all, range_with_len}
use Rattle.ht_bits.specs.Bits.{octets_of}
use Rattle.ht_rate.specs.declared.rates.Rate.{Rate}
use Rattle.ht_rate.specs.Rates.{encoders_of, pattern_of, steps_of}
use Rattle.ht_scramble.specs.Sequence.{scrambled, seed_of}
use Rattle.ht_viterbi.specs.Decoded.{decoded}
use Rattle.ht_viterbi.specs.Inputs.{distance}
use Rattle.ht_inverse.specs.declared.decoded.Decoded.{Decoded}
use Rattle.ht_inverse.specs.declared.outcome.Outcome.{Outcome}
use Rattle.ht_inverse.specs.declared.outcome.Outcome.TheVariants.{Octets, SeedZero}
use Rattle.ht_inverse.specs.Received.{received_of}

-- encoder j's input with its tail: the first of the terminated inputs that are nearest to its received list
unfoldable pub input_of : Rate → ℕ → ℕ → List ℕ → ℕ → List Bool
input_of r octets erased labels j = decoded (steps_of r octets) (pattern_of r) (received_of r octets erased labels j)

-- at how many places that aren't erased it differs from that list
unfoldable pub distance_at : Rate → ℕ → ℕ → List ℕ → ℕ → ℕ
distance_at r octets erased labels j = distance (pattern_of r) (received_of r octets erased labels j) (input_of r octets erased labels j)

-- the bits of SERVICE and of the octets from the encoders' inputs: bit N_ES * i + j is bit i of encoder j's input
abbrev pub joined_bits : Rate → ℕ → (ℕ → List Bool) → List Bool
joined_bits r octets inputs =
    map (λ t. slice_index_or (inputs (t % encoders_of r)) (t / encoders_of r) false) (range_with_len 0 (16 + 8 * octets))

-- those of a frame, still scrambled
unfoldable pub scrambled_bits : Rate → ℕ → ℕ → List ℕ → List Bool
scrambled_bits r octets erased labels = joined_bits r octets (input_of r octets erased labels)

-- what scrambled bits come to: seven zeros are the beginning of no sequence; any other seven bits give the seed, and
-- what stands behind the 16 bits of SERVICE, descrambled, are the octets
unfoldable pub outcome_of : List Bool → Outcome
outcome_of bits =
    if list_all not (take 7 bits) then SeedZero
    else Octets (octets_of (drop 16 (scrambled (seed_of (take 7 bits)) bits)))

-- the outcome of a frame, and the distances of its codewords together
unfoldable pub decoded_frame : Rate → ℕ → ℕ → List ℕ → Decoded
decoded_frame r octets erased labels = record {
  outcome = outcome_of (scrambled_bits r octets erased labels);
  code = sum (map (distance_at r octets erased labels) (range_with_len 0 (encoders_of r)));
}
