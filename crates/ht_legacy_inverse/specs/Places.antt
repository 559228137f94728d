-- Where the labels of a symbol have its coded bits.
use Rattle.std.specs.Prelude.{◌≡◌, ℕ, ◌-◌, ◌/◌, ◌%◌, ◌^◌, ◌<◌, List, length, slice_index_or}
use Rattle.ht_clause18.specs.declared.rates.LegacyRate.{LegacyRate}
use Rattle.ht_clause18.specs.Interleaver.{place_of}
use Rattle.ht_clause18.specs.Rates.{coded_bits_of, label_bits_of}
use Rattle.ht_viterbi.specs.declared.codeword.Codeword.{Codeword}
use Rattle.ht_legacy_inverse.specs.Decoding.{input_of, legacy_decoded_frame}
use Rattle.ht_legacy_inverse.specs.declared.label_place.LabelPlace.{LabelPlace}

-- where the labels of a symbol have coded bit k: which one, and the label in which this bit alone is 1
unfoldable pub label_place_of : LegacyRate → ℕ → LabelPlace
label_place_of r k = record { carrier = place_of r k / label_bits_of r; mask = 2 ^ (label_bits_of r - 1 - place_of r k % label_bits_of r) }

-- no bit of the first label
abbrev pub no_place : LabelPlace
no_place = record { carrier = 0; mask = 0 }

-- a table has the place of each coded bit of a symbol; behind them there may be more
pub record AreLabelPlaces (r : LegacyRate) (places : List LabelPlace) : Type 0 where
  pub whole : length places ≡ 288
  pub each : (k : ℕ) → k < coded_bits_of r → slice_index_or places k no_place ≡ label_place_of r k

-- the codeword that is nearest to the labels, and its distance from them
pub record IsCodewordOf (r : LegacyRate) (octets : ℕ) (labels : List ℕ) (codeword : Codeword) : Type 0 where
  pub input : codeword.input ≡ input_of r octets labels
  pub distance : codeword.distance ≡ (legacy_decoded_frame r octets labels).code
