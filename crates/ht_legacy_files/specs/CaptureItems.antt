-- What a capture of clause 18 frames gives.
use Rattle.std.specs.Prelude.{ℕ, List}
use Rattle.ht_metric.specs.declared.sample.Sample.{Sample}
use Rattle.ht_clause18.specs.declared.rates.LegacyRate.{LegacyRate}

-- the head of a frame: its rate, the number of octets of its PSDU, and the diagonal of each subcarrier, the lowest first
pub record LegacyHead : Type 0 where
  pub rate : LegacyRate
  pub length : ℕ
  pub diagonals : List ℕ

-- the head of a frame, or the samples of a symbol of the frame that began last, one for each subcarrier
pub data LegacyItem : Type 0 where
  Begins : LegacyHead → LegacyItem
  Symbol : List Sample → LegacyItem
