-- A PSDU that is to be sent.
use Rattle.std.specs.Prelude.{ℕ, ◌≤◌, List, length}
use Rattle.ht_clause18.specs.declared.rates.LegacyRate.{LegacyRate}

-- what is seen of a frame: its rate, the seed of the scrambler and the octets of the PSDU
pub record LegacyFrameView : Type 0 where
  pub rate : LegacyRate
  pub seed : ℕ
  pub octets : List ℕ

-- a PSDU has 1 to 4095 octets: LENGTH in SIGNAL has twelve bits (clause 18.3.4.3)
abbrev pub IsLegacyPsdu : List ℕ → Type 0
IsLegacyPsdu octets = (1 ≤ length octets) × (length octets ≤ 4095)
