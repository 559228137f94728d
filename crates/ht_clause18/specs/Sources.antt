-- What the parts of the transmitter hand on.
use Rattle.std.specs.Prelude.{◌≡◌, ℕ, ◌<◌, List, length, slice_index_or}
use Rattle.ht_clause18.specs.declared.rates.LegacyRate.{LegacyRate}
use Rattle.ht_clause18.specs.Interleaver.{origin_of}
use Rattle.ht_clause18.specs.Rates.{coded_bits_of}

-- for each place of a symbol the bit that comes there; behind them there may be more
pub record AreSources (rate : LegacyRate) (sources : List ℕ) : Type 0 where
  pub whole : length sources ≡ 288
  pub places : (j : ℕ) → j < coded_bits_of rate → slice_index_or sources j 0 ≡ origin_of rate j
