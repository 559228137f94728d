-- The sizes of a clause 18 frame's parts, as C passes them.
use Rattle.std.specs.Prelude.{◌≡◌, ℕ, ◌≤◌}
use Rattle.ht_clause18.specs.declared.rates.LegacyRate.{LegacyRate}
use Rattle.ht_clause18.specs.Points.{points_of}
use Rattle.ht_legacy_inverse.specs.Received.{labels_in_frame}

-- the frame of a PSDU of so many octets has so many points
pub record HasLegacyPointsOf (rate : LegacyRate) (octets points : ℕ) : Type 0 where
  pub some : 1 ≤ octets
  pub bounded : octets ≤ 4095
  pub all : points ≡ points_of rate octets

-- and so many labels
pub record HasLegacyLabelsOf (rate : LegacyRate) (octets labels : ℕ) : Type 0 where
  pub some : 1 ≤ octets
  pub bounded : octets ≤ 4095
  pub all : labels ≡ labels_in_frame rate octets
