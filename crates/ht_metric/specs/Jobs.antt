-- What a detector is asked, and what it has to answer.
use Rattle.std.specs.Prelude.{◌≡◌, ℕ, List, [], length, unwrap_or}
use Rattle.ht_nearest.specs.Nearest.{IsFirstNearest, first_nearest}
use Rattle.ht_pam.specs.Grids.{IsGrid}
use Rattle.ht_pam.specs.declared.axes.Axes.{Axes}
use Rattle.ht_pam.specs.declared.point.Point.{Point}
use Rattle.ht_metric.specs.declared.place.Place.{Place}
use Rattle.ht_metric.specs.declared.found.Found.{Found}
use Rattle.ht_metric.specs.Rows.{Row}
use Rattle.ht_metric.specs.Distance.{distance_of}
use Rattle.ht_metric.specs.Vectors.{is_in, before, vectors}

-- a job: its number, where in the capture it comes from, the grid of its vectors, and its system
pub record JobView : Type 0 where
  pub number : ℕ
  pub place : Place
  pub grid : List Axes
  pub system : List Row

-- the grid and the system have as many streams, one to four
pub record IsJob (job : JobView) : Type 0 where
  pub grid : IsGrid job.grid
  pub streams : length job.grid ≡ length job.system

-- the vector is in the job's grid, no vector of the grid is nearer, and none that is before it is as near
abbrev pub IsNear : JobView → List Point → Type 0
IsNear job vector = IsFirstNearest (is_in job.grid) (distance_of job.system) before vector

-- a vector with its distance in the job's system
abbrev pub found_at : JobView → List Point → Found
found_at job vector = record { vector = vector; distance = distance_of job.system vector }

-- the first nearest vector of a job's grid, with its distance
abbrev pub near : JobView → Found
near job = found_at job (unwrap_or (first_nearest (distance_of job.system) before (vectors job.grid)) [])
