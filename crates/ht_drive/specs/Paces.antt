-- How large the blocks of a drive are.
use Rattle.std.specs.Prelude.{ℕ, ◌*◌, ◌/◌, ◌≤◌, max, min}

-- how many jobs the next block is to have, and how many any is to have at most
pub record PaceView : Type 0 where
  pub size : ℕ
  pub most : ℕ

abbrev pub pace_view : ℕ → ℕ → PaceView
pace_view size most = record { size = size; most = most }

-- half a worker's share of a window, at least one job and at most 114
abbrev pub most_for : ℕ → ℕ → ℕ
most_for workers window = max 1 (min 114 (window / (2 * workers)))

-- what holds of every pace
pub record IsPace (pace : PaceView) : Type 0 where
  pub some : 1 ≤ pace.size
  pub within : pace.size ≤ pace.most
  pub few : pace.most ≤ 114
