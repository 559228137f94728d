-- A PSDU that is to be sent.
use Rattle.std.specs.Prelude.{ℕ, ◌≤◌, List, length}
use Rattle.ht_rate.specs.declared.rates.Rate.{Rate}

-- what is seen of a frame: its rate, the seed of the scrambler and the octets of the PSDU
pub record FrameView : Type 0 where
  pub rate : Rate
  pub seed : ℕ
  pub octets : List ℕ

-- a PSDU has 1 to 65535 octets
abbrev pub IsPsdu : List ℕ → Type 0
IsPsdu octets = (1 ≤ length octets) × (length octets ≤ 65535)
