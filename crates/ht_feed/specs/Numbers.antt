-- Jobs under other numbers.
use Rattle.std.specs.Prelude.{ℕ, ◌+◌, List, [], ◌∷◌}
use Rattle.ht_metric.specs.Jobs.{JobView}

-- the same job under another number
abbrev pub with_number : ℕ → JobView → JobView
with_number n job = record { number = n; place = job.place; grid = job.grid; system = job.system }

-- the same jobs, numbered from this number on
abbrev pub numbered : ℕ → List JobView → List JobView
numbered n [] = []
numbered n (job ∷ jobs) = with_number n job ∷ numbered (n + 1) jobs
