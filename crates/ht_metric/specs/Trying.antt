-- The plain detector's best vector so far.
use Rattle.std.specs.Prelude.{◌≡◌, ◌^◌, ◌<◌, List, ◌++◌, length, map, drop, Option, Some, None}
use Rattle.ht_pam.specs.declared.axes.Axes.{Axes}
use Rattle.ht_pam.specs.declared.point.Point.{Point}
use Rattle.ht_metric.specs.declared.found.Found.{Found}
use Rattle.ht_metric.specs.Rows.{Row}
use Rattle.ht_metric.specs.Distance.{distance_of}
use Rattle.ht_metric.specs.Vectors.{points, choices}

-- it has a point for each stream, and the distance is its own
pub record IsMeasured (system : List Row) (best : Found) : Type 0 where
  pub streams : length best.vector ≡ length system
  pub distance : best.distance ≡ distance_of system best.vector
  pub below : best.distance < 2 ^ 66

-- the vector of what was found, if something was
abbrev pub vector_of : Option Found → Option (List Point)
vector_of None = None
vector_of (Some best) = Some best.vector

-- the vectors of a grid that begin with these points
abbrev pub ends_of : List Axes → List Point → List (List Point)
ends_of grid front = map (λ x. front ++ x) (choices (map points (drop (length front) grid)))
