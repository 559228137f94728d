-- The vectors of a job of which one label bit has a given value. A label has the bits that its point was sent for (IEEE Std
-- 802.11-2012, clause 20.3.11.9 with tables 18-8 to 18-11 of clause 18.3.5.8).
use Rattle.std.specs.Prelude.{ℕ, suc, ◌+◌, ◌-◌, ◌/◌, ◌^◌, ◌==◌, nat_lt, List, [], ◌∷◌, length, slice_index_or, slice_set, Bool, true, false, not, if◌then◌else◌}
use Rattle.std.specs.Prelude.{Option, None, Some}
use Rattle.std.specs.Int.{bit_at}
use Rattle.ht_rate.specs.declared.kinds.Modulation.{Modulation}
use Rattle.ht_rate.specs.Schemes.{bits_of}
use Rattle.ht_pam.specs.Ladders.{Rungs}
use Rattle.ht_pam.specs.declared.axes.Axes.{Axes}
use Rattle.ht_pam.specs.declared.point.Point.{Point}
use Rattle.ht_map.specs.Gray.{Axis, i_axis, q_axis, one_bit, two_bits, three_bits, label_bit, label_of}
use Rattle.ht_map.specs.Constellation.{axes_of}
use Rattle.ht_metric.specs.Jobs.{JobView}
use Rattle.ht_metric.specs.Vectors.{no_point}

-- a bit has the value that is asked for
abbrev pub is : Bool → Bool → Bool
is true bit = bit
is false bit = not bit

-- a label has this value at bit e, bit 0 being the first one; a point without a label has none
abbrev pub label_has : Modulation → ℕ → Bool → Option ℕ → Bool
label_has m e value None = false
label_has m e value (Some label) = is value (label_bit m label e)

-- the label of a vector's point on a stream has this value at bit e; streams count from 1
unfoldable pub has_bit : Modulation → ℕ → ℕ → Bool → List Point → Bool
has_bit m stream e value x = label_has m e value (label_of m (slice_index_or x (stream - 1) no_point))

-- the mask of the levels of an axis whose bits pass a test, the first of them at this place
abbrev pub mask_from : (ℕ → Bool) → ℕ → Axis → ℕ
mask_from test place [] = 0
mask_from test place (step ∷ axis) = (if test step.0 then 2 ^ place else 0) + mask_from test (suc place) axis

-- of the bits that name a level, `count` of them, bit k has this value, bit 0 being the first one
abbrev pub named_by : ℕ → ℕ → Bool → ℕ → Bool
named_by count k value bits = is value (bit_at bits (count - 1 - k) == 1)

-- the levels of an axis whose bits have this value there
unfoldable pub cut_axis : Axis → ℕ → ℕ → Bool → Rungs
cut_axis axis count k value = record { size = length axis; mask = mask_from (named_by count k value) 0 axis }

-- how many bits of a label name I, and how many Q
abbrev pub i_bits : Modulation → ℕ
i_bits m = bits_of m - bits_of m / 2

abbrev pub q_bits : Modulation → ℕ
q_bits m = bits_of m / 2

-- the points whose label has this value at bit e: the first bits of a label name I, the others Q
unfoldable pub half_axes : Modulation → ℕ → Bool → Axes
half_axes m e value =
    if nat_lt e (i_bits m)
    then record { i = cut_axis (i_axis m) (i_bits m) e value; q = (axes_of m).q }
    else record { i = (axes_of m).i; q = cut_axis (q_axis m) (q_bits m) (e - i_bits m) value }

-- a grid with these points alone on a stream; streams count from 1
abbrev pub half_grid_of : Modulation → ℕ → ℕ → Bool → List Axes → List Axes
half_grid_of m stream e value grid = slice_set grid (stream - 1) (half_axes m e value)

-- the job of this number with this half of its grid
unfoldable pub half_of : Modulation → ℕ → ℕ → Bool → ℕ → JobView → JobView
half_of m stream e value number job = record {
  number = number;
  place = job.place;
  grid = half_grid_of m stream e value job.grid;
  system = job.system;
}

-- the axis that this number of bits names
unfoldable pub axis_named : ℕ → Axis
axis_named count = if count == 1 then one_bit else if count == 2 then two_bits else three_bits
