-- The sizes of a frame's parts, as C passes them.
use Rattle.std.specs.Prelude.{◌≡◌, ℕ, ◌*◌, ◌≤◌}
use Rattle.ht_rate.specs.declared.rates.Rate.{Rate}
use Rattle.ht_tx.specs.Symbols.{points_of}
use Rattle.ht_inverse.specs.Received.{labels_in_frame}

-- the frame of a PSDU of so many octets has so many points
pub record HasPointsOf (rate : Rate) (octets points : ℕ) : Type 0 where
  pub some : 1 ≤ octets
  pub bounded : octets ≤ 65535
  pub all : points ≡ points_of rate octets

-- the frame of a PSDU of so many octets has so many values, this number to a label
pub record HasFrameOf (rate : Rate) (octets each values : ℕ) : Type 0 where
  pub some : 1 ≤ octets
  pub bounded : octets ≤ 65535
  pub all : values ≡ labels_in_frame rate octets * each
