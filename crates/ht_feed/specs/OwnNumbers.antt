-- Jobs and their numbers.
use Rattle.std.specs.Prelude.{◌≡◌, ◌≤◌, ℕ, List, [], ◌∷◌, if◌then◌else◌, ◌==◌, nat_lt, slice_get, Some}
use Rattle.std.specs.List.{sum_by}
use Rattle.ht_metric.specs.Jobs.{JobView}

-- 1 for the job of this number, 0 for others
abbrev pub is_number : ℕ → JobView → ℕ
is_number n job = if job.number == n then 1 else 0

-- 1 for a number below, 0 for others
abbrev pub is_below : ℕ → ℕ → ℕ
is_below count n = if nat_lt n count then 1 else 0

-- each job has a number of its own below the count
abbrev pub HaveNumbers : ℕ → List JobView → Type 0
HaveNumbers count jobs = (n : ℕ) → sum_by (is_number n) jobs ≤ is_below count n

-- each of these jobs is the one of its number in the list of all
abbrev pub AreByNumber : List JobView → List JobView → Type 0
AreByNumber all [] = Unit {0}
AreByNumber all (job ∷ jobs) = (slice_get all job.number ≡ Some job) × AreByNumber all jobs
