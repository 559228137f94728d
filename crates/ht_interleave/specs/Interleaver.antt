-- Where the bits of a symbol and stream come to stand (IEEE Std 802.11-2012, clause 20.3.11.8).
use Rattle.std.specs.Prelude.{◌≡◌, ℕ, ◌<◌, List, Bool, false, length, slice_index_or}
use Rattle.ht_rate.specs.declared.rates.Rate.{Rate}
use Rattle.ht_rate.specs.Rates.{stream_bits_of}
use Rattle.ht_interleave.specs.Steps.{first, second, third, first_back, second_back, third_back}

-- the place of bit k of a stream
unfoldable pub place_of : Rate → ℕ → ℕ → ℕ
place_of rate stream k = third rate stream (second rate (first rate k))

-- the bit that stands at place r of a stream
unfoldable pub origin_of : Rate → ℕ → ℕ → ℕ
origin_of rate stream r = first_back rate (second_back rate (third_back rate stream r))

-- the bits of one stream and symbol, in order and interleaved: bit k stands at its place
pub record IsInterleaved (rate : Rate) (stream : ℕ) (bits places : List Bool) : Type 0 where
  pub before : length bits ≡ stream_bits_of rate
  pub after : length places ≡ stream_bits_of rate
  pub moved : (k : ℕ) → k < stream_bits_of rate → slice_index_or places (place_of rate stream k) false ≡ slice_index_or bits k false
