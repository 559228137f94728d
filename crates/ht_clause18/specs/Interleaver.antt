-- Where the coded bits of a symbol come to stand (IEEE Std 802.11-2012, clause 18.3.5.7).
use Rattle.std.specs.Prelude.{ℕ, ◌+◌, ◌-◌, ◌*◌, ◌/◌, ◌%◌, List, map, Bool, false, slice_index_or}
use Rattle.std.specs.List.{range_with_len}
use Rattle.ht_clause18.specs.declared.rates.LegacyRate.{LegacyRate}
use Rattle.ht_clause18.specs.Rates.{axis_bits_of, coded_bits_of}

module _ (rate : LegacyRate) where
  -- the first permutation: i = (N_CBPS / 16) (k mod 16) + floor(k / 16)
  unfoldable pub first : ℕ → ℕ
  first k = coded_bits_of rate / 16 * (k % 16) + k / 16

  -- the second: j = s floor(i / s) + (i + N_CBPS - floor(16 i / N_CBPS)) mod s
  unfoldable pub second : ℕ → ℕ
  second i = axis_bits_of rate * (i / axis_bits_of rate) + (i + coded_bits_of rate - 16 * i / coded_bits_of rate) % axis_bits_of rate

  -- the deinterleaver's first: i = s floor(j / s) + (j + floor(16 j / N_CBPS)) mod s
  unfoldable pub second_back : ℕ → ℕ
  second_back j = axis_bits_of rate * (j / axis_bits_of rate) + (j + 16 * j / coded_bits_of rate) % axis_bits_of rate

  -- its second: k = 16 i - (N_CBPS - 1) floor(16 i / N_CBPS)
  unfoldable pub first_back : ℕ → ℕ
  first_back i = 16 * i - (coded_bits_of rate - 1) * (16 * i / coded_bits_of rate)

  -- the place of bit k
  unfoldable pub place_of : ℕ → ℕ
  place_of k = second (first k)

  -- the bit that stands at place j
  unfoldable pub origin_of : ℕ → ℕ
  origin_of j = first_back (second_back j)

  -- the coded bits of a symbol, interleaved: at each place its bit
  unfoldable pub interleaved : List Bool → List Bool
  interleaved bits = map (λ j. slice_index_or bits (origin_of j) false) (range_with_len 0 (coded_bits_of rate))
