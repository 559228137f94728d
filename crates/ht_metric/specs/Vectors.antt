-- Vectors of points, one for each stream: their order, and those of a grid.
use Rattle.std.specs.Prelude.{◌≡◌, ℕ, ◌-◌, ◌≤◌, ℤ, pos, int_lt, Bool, true, false, ◌&&◌, ◌||◌, not}
use Rattle.std.specs.Prelude.{List, [], ◌∷◌, length, drop, replicate, map}
use Rattle.std.specs.List.{flat_map}
use Rattle.ht_pam.specs.Ladders.{levels, has}
use Rattle.ht_pam.specs.declared.axes.Axes.{Axes}
use Rattle.ht_pam.specs.declared.point.Point.{Point}

-- the point of a stream that is not there
abbrev pub no_point : Point
no_point = record { i = pos 0; q = pos 0 }

-- an array of four places, of which a vector takes the first ones
pub record IsPaddedVector (len : ℕ) (points : List Point) : Type 0 where
  pub within : len ≤ 4
  pub places : length points ≡ 4
  pub unused : drop len points ≡ replicate (4 - len) no_point

-- the levels of a vector: I_1, Q_1, I_2 and so on
abbrev pub levels_of : List Point → List ℤ
levels_of [] = []
levels_of (p ∷ x) = p.i ∷ p.q ∷ levels_of x

-- one list of levels is before another: at the first place where they differ its level is less
abbrev pub levels_before : List ℤ → List ℤ → Bool
levels_before left [] = false
levels_before [] (b ∷ right) = true
levels_before (a ∷ left) (b ∷ right) = int_lt a b || (not (int_lt b a) && levels_before left right)

-- one vector is before another: its levels are
abbrev pub before : List Point → List Point → Bool
before left right = levels_before (levels_of left) (levels_of right)

-- a vector has an allowed point on each stream of the grid
abbrev pub is_in : List Axes → List Point → Bool
is_in [] [] = true
is_in [] (p ∷ x) = false
is_in (a ∷ grid) [] = false
is_in (a ∷ grid) (p ∷ x) = (has a.i p.i && has a.q p.q) && is_in grid x

-- the points of one stream, in order
abbrev pub points : Axes → List Point
points a = flat_map (λ i. map (λ q. record { i = i; q = q }) (levels a.q)) (levels a.i)

-- the vectors with a point of each list, in order
abbrev pub choices : List (List Point) → List (List Point)
choices [] = [] ∷ []
choices (first ∷ rest) = flat_map (λ p. map (λ x. p ∷ x) (choices rest)) first

-- the vectors of a grid, in order
abbrev pub vectors : List Axes → List (List Point)
vectors grid = choices (map points grid)
