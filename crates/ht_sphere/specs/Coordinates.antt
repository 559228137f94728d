-- A system of complex rows as one of real coordinates: I and Q of each stream.
use Rattle.std.specs.Prelude.{◌≡◌, ◌⊎◌, ◌≤◌, ◌^◌, true, ℕ, zero, suc, ◌+◌, ◌-◌, ℤ, pos, unsigned_abs, ◌+ℤ◌, ◌-ℤ◌, ◌*ℤ◌}
use Rattle.std.specs.Prelude.{List, [], ◌∷◌, ◌++◌, length, drop, slice_index_or}
use Rattle.ht_pam.specs.Ladders.{Rungs, levels, has}
use Rattle.ht_pam.specs.Grids.{no_axes}
use Rattle.ht_pam.specs.Zigzags.{gap, nearest_first}
use Rattle.ht_pam.specs.declared.axes.Axes.{Axes}
use Rattle.ht_pam.specs.declared.point.Point.{Point}
use Rattle.ht_metric.specs.declared.tap.Tap.{Tap}
use Rattle.ht_metric.specs.Rows.{Row, no_row, no_tap}
use Rattle.ht_metric.specs.Distance.{square}

-- one coordinate: its ladder, its diagonal, its part of a sample, and the weights of the coordinates behind it
pub record Real : Type 0 where
  pub ladder : Rungs
  pub diagonal : ℕ
  pub sample : ℤ
  pub weights : List ℤ

-- the sum of the levels behind, each times its weight
abbrev pub weighed : List ℤ → List ℤ → ℤ
weighed [] xs = pos 0
weighed (w ∷ ws) [] = pos 0
weighed (w ∷ ws) (x ∷ xs) = (w *ℤ x) +ℤ weighed ws xs

-- what the coordinates behind leave of the sample
abbrev pub target : Real → List ℤ → ℤ
target c chosen = c.sample -ℤ weighed c.weights chosen

-- the allowed levels, the nearest to a target first
abbrev pub order_at : Real → ℤ → List ℤ
order_at c t = nearest_first (gap t c.diagonal) (levels c.ladder)

-- the square of what a level leaves of a target
abbrev pub cost_at : Real → ℤ → ℤ → ℕ
cost_at c t x = square (t -ℤ (pos c.diagonal *ℤ x))

-- the first level of a ladder: the nearest to a target, and the lower one at a tie
abbrev pub first_of : Rungs → ℤ → ℕ → ℤ
first_of l t d = slice_index_or (nearest_first (gap t d) (levels l)) 0 (pos 0)

-- each other level of a ladder costs at least `m` more than this one
abbrev pub IsMargin : Rungs → ℤ → ℕ → ℤ → ℕ → Type 0
IsMargin l t d x m = (y : ℤ) → has l y ≡ true → (y ≡ x) ⊎ (square (t -ℤ (pos d *ℤ x)) + m ≤ square (t -ℤ (pos d *ℤ y)))

-- the same behind chosen levels
abbrev pub order : Real → List ℤ → List ℤ
order c chosen = order_at c (target c chosen)

abbrev pub cost : Real → List ℤ → ℤ → ℕ
cost c chosen x = cost_at c (target c chosen) x

-- what is known of a coordinate behind chosen levels: its diagonal and its target, which is within bounds
pub record IsAimed (c : Real) (chosen : List ℤ) (d : ℕ) (t : ℤ) : Type 0 where
  pub diagonal : d ≡ c.diagonal
  pub target : t ≡ target c chosen
  pub bound : unsigned_abs t ≤ 2 ^ 31 + 2 ^ 21

-- the entries of a row for this number of streams behind its own
abbrev pub entries_behind : ℕ → List Tap → List Tap
entries_behind zero right = []
entries_behind (suc behind) right = slice_index_or right 0 no_tap ∷ entries_behind behind (drop 1 right)

-- the weights of I and Q of each stream behind, for a coordinate I and for a coordinate Q
abbrev pub weights_of_i : List Tap → List ℤ
weights_of_i [] = []
weights_of_i (r ∷ rs) = r.re ∷ (pos 0 -ℤ r.im) ∷ weights_of_i rs

abbrev pub weights_of_q : List Tap → List ℤ
weights_of_q [] = []
weights_of_q (r ∷ rs) = r.im ∷ r.re ∷ weights_of_q rs

-- what the streams behind row k, counted from 1, leave of its sample
abbrev pub left_i : List Row → ℕ → List ℤ → ℤ
left_i rows k behind =
    let row = slice_index_or rows (k - 1) no_row in row.sample.re -ℤ weighed (weights_of_i (entries_behind (length rows - k) row.right)) behind

abbrev pub left_q : List Row → ℕ → List ℤ → ℤ
left_q rows k behind =
    let row = slice_index_or rows (k - 1) no_row in row.sample.im -ℤ weighed (weights_of_q (entries_behind (length rows - k) row.right)) behind

-- the coordinates of a row with this number of streams behind it: Q of its own stream has no weight in I's
abbrev pub in_phase : ℕ → Row → Axes → Real
in_phase behind row a =
    record { ladder = a.i; diagonal = row.diagonal; sample = row.sample.re; weights = pos 0 ∷ weights_of_i (entries_behind behind row.right) }

abbrev pub quadrature : ℕ → Row → Axes → Real
quadrature behind row a =
    record { ladder = a.q; diagonal = row.diagonal; sample = row.sample.im; weights = weights_of_q (entries_behind behind row.right) }

-- all coordinates, from Q of the last stream to I of the first one
abbrev pub from_last : List Row → List Axes → List Real
from_last [] grid = []
from_last (row ∷ rows) [] = []
from_last (row ∷ rows) (a ∷ grid) = from_last rows grid ++ quadrature (length rows) row a ∷ in_phase (length rows) row a ∷ []

-- those of the row at a place, and those of the first rows
abbrev pub q_at : List Row → List Axes → ℕ → Real
q_at rows grid j = quadrature (length rows - suc j) (slice_index_or rows j no_row) (slice_index_or grid j no_axes)

abbrev pub i_at : List Row → List Axes → ℕ → Real
i_at rows grid j = in_phase (length rows - suc j) (slice_index_or rows j no_row) (slice_index_or grid j no_axes)

abbrev pub down : List Row → List Axes → ℕ → List Real
down rows grid zero = []
down rows grid (suc j) = q_at rows grid j ∷ i_at rows grid j ∷ down rows grid j

-- from Q or I of the row at a place
abbrev pub from_i : List Row → List Axes → ℕ → List Real
from_i rows grid j = i_at rows grid j ∷ down rows grid j

abbrev pub from_q : List Row → List Axes → ℕ → List Real
from_q rows grid j = q_at rows grid j ∷ from_i rows grid j

-- the vector of levels I_1, Q_1, I_2 and so on
abbrev pub points_from : List ℤ → List Point
points_from [] = []
points_from (i ∷ []) = []
points_from (i ∷ q ∷ rest) = record { i = i; q = q } ∷ points_from rest
