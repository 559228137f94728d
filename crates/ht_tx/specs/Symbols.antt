-- The symbols of a frame as points, in the order symbol, subcarrier, stream.
use Rattle.std.specs.Prelude.{◌≡◌, ℕ, ◌+◌, ◌-◌, ◌*◌, ◌<◌, ◌≤◌, pos, List, length, slice_index_or, true, is_some}
use Rattle.ht_rate.specs.declared.kinds.Carrier.{Carrier}
use Rattle.ht_rate.specs.declared.kinds.Carrier.TheVariants.{Data, Pilot}
use Rattle.ht_rate.specs.declared.rates.Rate.{Rate}
use Rattle.ht_rate.specs.Carriers.{carrier_of}
use Rattle.ht_rate.specs.Rates.{modulation_of, streams_of, carriers_of, symbols_of}
use Rattle.ht_pam.specs.declared.point.Point.{Point}
use Rattle.ht_map.specs.Gray.{label_of}
use Rattle.ht_pilot.specs.Pilots.{pilot_of}

-- what is seen of a frame's symbols: the rate, the octets of the PSDU and the points
pub record SymbolsView : Type 0 where
  pub rate : Rate
  pub length : ℕ
  pub points : List Point

-- N_SYM * N_ST * N_SS, the points of a frame
unfoldable pub points_of : Rate → ℕ → ℕ
points_of r octets = symbols_of r octets * carriers_of r * streams_of r

-- the place of a point: symbols and subcarriers count from 0, and streams from 1
unfoldable pub index_of_point : Rate → ℕ → ℕ → ℕ → ℕ
index_of_point r symbol carrier stream = (symbol * carriers_of r + carrier) * streams_of r + (stream - 1)

-- no signal, which stands for a point that isn't there
abbrev pub origin : Point
origin = record { i = pos 0; q = pos 0 }

-- the point of a symbol, subcarrier and stream
abbrev pub point_at : Rate → List Point → ℕ → ℕ → ℕ → Point
point_at r points symbol carrier stream = slice_index_or points (index_of_point r symbol carrier stream) origin

-- the point of a pilot: (v, 0)
unfoldable pub pilot_point : Rate → ℕ → ℕ → ℕ → Point
pilot_point r symbol k stream = record { i = pilot_of r symbol k stream; q = pos 0 }

-- a data point is on the constellation, and a pilot has its value
abbrev pub Fits : Rate → ℕ → Carrier → ℕ → Point → Type 0
Fits r symbol (Data m) stream point = is_some (label_of (modulation_of r) point) ≡ true
Fits r symbol (Pilot k) stream point = point ≡ pilot_point r symbol k stream

-- all points of a PSDU of this number of octets, each fitting its subcarrier
pub record IsSymbols (r : Rate) (octets : ℕ) (points : List Point) : Type 0 where
  pub some : 1 ≤ octets
  pub bounded : octets ≤ 65535
  pub whole : length points ≡ points_of r octets
  pub fits :
      (symbol carrier stream : ℕ) → symbol < symbols_of r octets → carrier < carriers_of r → 1 ≤ stream → stream ≤ streams_of r
      → Fits r symbol (carrier_of r carrier) stream (point_at r points symbol carrier stream)
