-- The places of the points of a frame, in the order symbol, subcarrier, stream.
use Rattle.std.specs.Prelude.{ℕ, ◌+◌, ◌/◌, ◌%◌, ◌<◌, List, length, slice_index_or}
use Rattle.ht_rate.specs.declared.kinds.Carrier.{Carrier}
use Rattle.ht_rate.specs.declared.rates.Rate.{Rate}
use Rattle.ht_rate.specs.Carriers.{carrier_of}
use Rattle.ht_rate.specs.Rates.{carriers_of, streams_of}
use Rattle.ht_pam.specs.declared.point.Point.{Point}
use Rattle.ht_tx.specs.Symbols.{Fits, origin}

-- the symbol of a place, counted from 0
abbrev pub symbol_at_place : Rate → ℕ → ℕ
symbol_at_place r place = place / streams_of r / carriers_of r

-- what its subcarrier carries
abbrev pub carrier_at_place : Rate → ℕ → Carrier
carrier_at_place r place = carrier_of r (place / streams_of r % carriers_of r)

-- its stream, counted from 1
abbrev pub stream_at_place : Rate → ℕ → ℕ
stream_at_place r place = place % streams_of r + 1

-- a point fits its place: it is on the constellation, or it is the pilot's
abbrev pub FitsPlace : Rate → ℕ → Point → Type 0
FitsPlace r place point = Fits r (symbol_at_place r place) (carrier_at_place r place) (stream_at_place r place) point

-- the first points of a frame, each fitting its place
abbrev pub AreFitting : Rate → List Point → Type 0
AreFitting r points = (place : ℕ) → place < length points → FitsPlace r place (slice_index_or points place origin)
