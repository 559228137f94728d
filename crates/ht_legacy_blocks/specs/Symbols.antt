-- What a symbol that was read keeps.
use Rattle.std.specs.Prelude.{◌≡◌, ℕ, ◌+◌, ◌*◌, ◌^◌, ◌<◌, List, [], ◌∷◌, length}
use Rattle.ht_pam.specs.declared.axes.Axes.{Axes}
use Rattle.ht_map.specs.Constellation.{axes_of}
use Rattle.ht_clause18.specs.declared.rates.LegacyRate.{LegacyRate}
use Rattle.ht_clause18.specs.Carriers.{carriers}
use Rattle.ht_clause18.specs.Rates.{modulation_of}
use Rattle.ht_legacy_blocks.specs.declared.head.LegacyFrameHead.{LegacyFrameHead}

-- the grid of the data subcarriers
abbrev pub full_of : LegacyRate → List Axes
full_of rate = axes_of (modulation_of rate) ∷ []

-- two octets for each diagonal, eight for each sample, the grid of the data subcarriers, and numbers that fit
pub record IsSymbol (head : LegacyFrameHead) (grid : List Axes) (first : ℕ) (front octets : List ℕ) : Type 0 where
  pub full : grid ≡ full_of head.rate
  pub numbers : first + carriers < 2 ^ 64
  pub diagonals : length front ≡ 2 * carriers
  pub samples : length octets ≡ 8 * carriers
