-- The points among which vectors are sought.
use Rattle.std.specs.Prelude.{◌≡◌, ◌≤◌, ◌-◌, ℕ, List, length, drop, replicate}
use Rattle.std.specs.List.{All}
use Rattle.ht_pam.specs.Ladders.{IsLadder}
use Rattle.ht_pam.specs.declared.axes.Axes.{Axes}

-- both coordinates have a ladder
pub record AreLadders (a : Axes) : Type 0 where
  pub i : IsLadder a.i
  pub q : IsLadder a.q

-- a grid has the ladders of one to four streams
pub record IsGrid (g : List Axes) : Type 0 where
  pub some : 1 ≤ length g
  pub few : length g ≤ 4
  pub ladders : All AreLadders g

-- the ladders of a stream that is not there: both have the one level 0
abbrev pub no_axes : Axes
no_axes = record { i = record { size = 1; mask = 1 }; q = record { size = 1; mask = 1 } }

-- an array of four places, of which the streams take the first ones
pub record IsPaddedGrid (streams : ℕ) (axes : List Axes) : Type 0 where
  pub within : streams ≤ 4
  pub places : length axes ≡ 4
  pub unused : drop streams axes ≡ replicate (4 - streams) no_axes
