-- How many workers and how many jobs a drive may have.
use Rattle.std.specs.Prelude.{ℕ, ◌≤◌}

-- a number of jobs that may be given and not yet taken at any moment
pub record IsWindowSize (jobs : ℕ) : Type 0 where
  pub some : 1 ≤ jobs
  pub few : jobs ≤ 4096

-- a number of workers that run jobs, the caller among them
pub record IsCrewSize (workers : ℕ) : Type 0 where
  pub one : 1 ≤ workers
  pub many : workers ≤ 64
