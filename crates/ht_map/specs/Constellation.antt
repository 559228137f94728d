-- The constellation of a modulation, and the grid of a rate.
use Rattle.std.specs.Prelude.{◌≢◌, ℕ, ◌-◌, ◌/◌, ◌^◌, ◌<◌, List, replicate}
use Rattle.ht_rate.specs.declared.kinds.Modulation.{Modulation}
use Rattle.ht_rate.specs.declared.rates.Rate.{Rate}
use Rattle.ht_rate.specs.Schemes.{bits_of}
use Rattle.ht_rate.specs.Rates.{modulation_of, streams_of}
use Rattle.ht_pam.specs.Ladders.{Rungs}
use Rattle.ht_pam.specs.declared.axes.Axes.{Axes}
use Rattle.ht_pam.specs.declared.point.Point.{Point}
use Rattle.ht_map.specs.Gray.{point_of, q_levels}

-- no label has this point
abbrev pub IsOff : Modulation → Point → Type 0
IsOff m point = (label : ℕ) → label < 2 ^ bits_of m → point_of m label ≢ point

-- the ladder that allows all of its levels
abbrev pub full : ℕ → Rungs
full size = record { size = size; mask = 2 ^ size - 1 }

-- the ladders of a constellation
unfoldable pub axes_of : Modulation → Axes
axes_of m = record { i = full (2 ^ bits_of m / q_levels m); q = full (q_levels m) }

-- the full constellation on each spatial stream
unfoldable pub grid_of : Rate → List Axes
grid_of r = replicate (streams_of r) (axes_of (modulation_of r))
