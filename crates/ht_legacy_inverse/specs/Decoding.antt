-- What a frame's labels are decoded to, as a function (IEEE Std 802.11-2012, clauses 18.3.5.2 to 18.3.5.7 backwards).
use Rattle.std.specs.Prelude.{ℕ, ◌+◌, ◌*◌, List, take, Bool}
use Rattle.ht_viterbi.specs.Decoded.{decoded}
use Rattle.ht_viterbi.specs.Inputs.{distance}
use Rattle.ht_inverse.specs.declared.decoded.Decoded.{Decoded}
use Rattle.ht_inverse.specs.Decoding.{outcome_of}
use Rattle.ht_clause18.specs.declared.rates.LegacyRate.{LegacyRate}
use Rattle.ht_clause18.specs.Rates.{needed_bits, pattern_of}
use Rattle.ht_legacy_inverse.specs.Received.{received_of}

-- the encoder's input with its tail: the first of the terminated inputs that are nearest to the received list
unfoldable pub input_of : LegacyRate → ℕ → List ℕ → List Bool
input_of r octets labels = decoded (needed_bits octets) (pattern_of r) (received_of r octets labels)

-- the bits of SERVICE and of the octets, still scrambled: what stands before the tail
unfoldable pub scrambled_bits : LegacyRate → ℕ → List ℕ → List Bool
scrambled_bits r octets labels = take (16 + 8 * octets) (input_of r octets labels)

-- the outcome of a frame, and the distance of its codeword from the received list
unfoldable pub legacy_decoded_frame : LegacyRate → ℕ → List ℕ → Decoded
legacy_decoded_frame r octets labels = record {
  outcome = outcome_of (scrambled_bits r octets labels);
  code = distance (pattern_of r) (received_of r octets labels) (input_of r octets labels);
}
