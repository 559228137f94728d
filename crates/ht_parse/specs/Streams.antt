-- How the coded bits of a symbol are laid on the spatial streams (IEEE Std 802.11-2012, clause 20.3.11.8.2).
use Rattle.std.specs.Prelude.{◌≡◌, ℕ, ◌+◌, ◌-◌, ◌*◌, ◌/◌, ◌%◌, ◌<◌, ◌≤◌, List, Bool, false, length, slice_index_or}
use Rattle.ht_rate.specs.declared.rates.Rate.{Rate}
use Rattle.ht_rate.specs.Rates.{encoders_of, streams_of, stream_bits_of, coded_bits_of, axis_bits_of}
use Rattle.ht_parse.specs.Encoders.{list_of, AreShares}

-- N_CBPS / N_ES, the coded bits of a symbol that each encoder gives
unfoldable pub share_of : Rate → ℕ
share_of r = coded_bits_of r / encoders_of r

-- bit k of stream `stream`, from 1 on, is bit i of encoder j: (j, i), with S = N_SS * s, where
-- j = floor(k / s) mod N_ES and i = (stream - 1) * s + S * floor(k / (N_ES * s)) + k mod s
unfoldable pub source_of : Rate → ℕ → ℕ → ℕ × ℕ
source_of r stream k = (
  k / axis_bits_of r % encoders_of r,
  (stream - 1) * axis_bits_of r + streams_of r * axis_bits_of r * (k / (encoders_of r * axis_bits_of r)) + k % axis_bits_of r,
)

-- and back: bit i of encoder j is bit k of a stream, (stream, k)
unfoldable pub stream_place_of : Rate → ℕ → ℕ → ℕ × ℕ
stream_place_of r j i =
    (i / axis_bits_of r % streams_of r + 1, encoders_of r * axis_bits_of r * (i / (streams_of r * axis_bits_of r)) + j * axis_bits_of r + i % axis_bits_of r)

-- the symbol has the streams one after another, and each bit of a stream is the bit that it comes from
pub record IsLaid (r : Rate) (bits first second : List Bool) : Type 0 where
  pub whole : length bits ≡ coded_bits_of r
  pub share : length first ≡ share_of r
  pub shares : AreShares r first second
  pub places :
      (stream k : ℕ) → 1 ≤ stream → stream ≤ streams_of r → k < stream_bits_of r
      → slice_index_or bits ((stream - 1) * stream_bits_of r + k) false
      ≡ slice_index_or (list_of first second (source_of r stream k).0) (source_of r stream k).1 false
