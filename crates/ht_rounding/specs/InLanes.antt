-- Jobs in lanes.
use Rattle.std.specs.Prelude.{◌≡◌, ℕ, ◌^◌, ◌<◌, List, [], ◌∷◌, drop, length, slice_index, slice_index_or, replicate, take}
use Rattle.ht_pam.specs.declared.axes.Axes.{Axes}
use Rattle.ht_pam.specs.declared.point.Point.{Point}
use Rattle.ht_metric.specs.Distance.{IsInRange, received}
use Rattle.ht_metric.specs.Rows.{Row, no_tap}
use Rattle.ht_metric.specs.declared.tap.Tap.{Tap}
use Rattle.ht_metric.specs.Jobs.{JobView, IsJob, near}
use Rattle.ht_rounding.specs.declared.rows.Parts.{Parts}
use Rattle.ht_rounding.specs.declared.rows.Reached.{Reached}
use Rattle.ht_rounding.specs.declared.streams.RowLanes.{RowLanes}
use Rattle.ht_rounding.specs.declared.streams.Channel.{Channel}
use Rattle.ht_rounding.specs.declared.streams.SampleLanes.{SampleLanes}
use Rattle.ht_rounding.specs.declared.streams.Four.{Four}
use Rattle.ht_rounding.specs.declared.levels.Levels.{Levels}
use Rattle.ht_rounding.specs.Proposals.{full, AreSmall}
use Rattle.ht_rounding.specs.RowSteps.{HoldBoth, AreWithin, IsEntry, point_of}

-- lane k has the parts of an entry
abbrev pub HasEntry : Parts → ℕ → List Tap → Type 0
HasEntry lanes k right = IsEntry (slice_index lanes.re k) (slice_index lanes.im k) (slice_index_or right 0 no_tap)

-- lane k has a row with this number of streams behind its own, and what was received on it
pub record IsRowIn (lanes : RowLanes) (y : Parts) (k behind : ℕ) (row : Row) : Type 0 where
  pub diagonal : slice_index lanes.diagonal k ≡ row.diagonal
  pub sample : HoldBoth (slice_index y.re k) (slice_index y.im k) (received row.sample)
  pub within : AreWithin (2 ^ 31) (received row.sample)
  pub next : 0 < behind → HasEntry lanes.next k row.right
  pub second : 1 < behind → HasEntry lanes.second k (drop 1 row.right)
  pub third : 2 < behind → HasEntry lanes.third k (drop 1 (drop 1 row.right))

-- the points of a stream with all levels
abbrev pub axes_of : Levels → Levels → Axes
axes_of i q = record { i = full i; q = full q }

-- lane k has the rows from this one on
abbrev pub AreRowsIn : List RowLanes → List Parts → ℕ → List Row → Type 0
AreRowsIn lanes ys k [] = Unit {0}
AreRowsIn [] ys k (row ∷ rows) = ⊥
AreRowsIn (l ∷ lanes) [] k (row ∷ rows) = ⊥
AreRowsIn (l ∷ lanes) (y ∷ ys) k (row ∷ rows) = IsRowIn l y k (length rows) row × AreRowsIn lanes ys k rows

-- lane k has a job of this number of streams, each with all these levels
pub record IsInLane (i q : Levels) (channel : Channel) (samples : SampleLanes) (k n : ℕ) (job : JobView) : Type 0 where
  pub valid : IsJob job
  pub streams : length job.system ≡ n
  pub grid : job.grid ≡ replicate n (axes_of i q)
  pub rows : AreRowsIn (channel.first ∷ channel.second ∷ channel.third ∷ channel.fourth ∷ [])
      (samples.first ∷ samples.second ∷ samples.third ∷ samples.fourth ∷ []) k job.system

-- the diagonals of all rows are below 2^16
pub record IsSmall (channel : Channel) : Type 0 where
  pub first : AreSmall channel.first.diagonal
  pub second : AreSmall channel.second.diagonal
  pub third : AreSmall channel.third.diagonal
  pub fourth : AreSmall channel.fourth.diagonal

-- the point of lane k
abbrev pub point_at : Reached → ℕ → Point
point_at r k = point_of (slice_index r.i k) (slice_index r.q k)

-- the parts of all points are from -7 to 7
abbrev pub AreFew : List Point → Type 0
AreFew [] = Unit {0}
AreFew (p ∷ ps) = IsInRange p × AreFew ps

pub record Finds (vector : List Point) (distance : ℕ) (job : JobView) : Type 0 where
  pub near : near job ≡ record { vector = vector; distance = distance }
  pub few : AreFew vector

-- the points of lane k
abbrev pub points_at : ℕ → Four → ℕ → List Point
points_at streams found k = take streams (point_at found.first k ∷ point_at found.second k ∷ point_at found.third k ∷ point_at found.fourth k ∷ [])
