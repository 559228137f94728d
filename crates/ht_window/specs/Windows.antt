-- What a contract sees of a window.
use Rattle.std.specs.Prelude.{◌≡◌, ◌+◌, ◌^◌, ◌<◌, ◌≤◌, ℕ, List, [], ◌∷◌, length, map, slice_get, Option, Some, None, option_map}
use Rattle.ht_metric.specs.Jobs.{JobView, near}
use Rattle.ht_metric.specs.declared.found.Found.{Found}
use Rattle.ht_window.specs.declared.slot.Slot.{Slot}

-- how many slots there may be, the number of the front, and the slots from the front on, each a job with what was found for it,
-- if it doesn't wait for that
pub record WindowView : Type 0 where
  pub capacity : ℕ
  pub front : ℕ
  pub slots : List Slot

-- a job that waits for its answer
abbrev pub unbooked : JobView → Slot
unbooked job = record { job = job; found = None }

-- a job with its answer, the first nearest vector
abbrev pub booked : JobView → Slot
booked job = record { job = job; found = Some (near job) }

-- the jobs of the slots, in order
abbrev pub jobs : List Slot → List JobView
jobs slots = map (λ s. s.job) slots

-- what the hit of the first slot says: the slot's job and what was found for it
abbrev pub front_hit : List Slot → Option (JobView × Found)
front_hit [] = None
front_hit (s ∷ rest) = option_map (λ found. (s.job, found)) s.found

-- the job of a slot that waits, or what comes else
abbrev pub job_without : Option Found → JobView → Option JobView → Option JobView
job_without None job else_job = Some job
job_without (Some found) job else_job = else_job

-- the first job that waits
abbrev pub first_unbooked : List Slot → Option JobView
first_unbooked [] = None
first_unbooked (s ∷ rest) = job_without s.found s.job (first_unbooked rest)

-- what holds of every window: its slots are no more than its capacity, their jobs are numbered from the front on,
-- and what is in a slot is the first nearest vector of its job
pub record IsWindow (w : WindowView) : Type 0 where
  pub some : 1 ≤ w.capacity
  pub few : w.capacity ≤ 4096
  pub within : length w.slots ≤ w.capacity
  pub last : w.front + length w.slots < 2 ^ 64
  pub numbered : (k : ℕ) (s : Slot) → slice_get w.slots k ≡ Some s → s.job.number ≡ w.front + k
  pub own : (k : ℕ) (s : Slot) (found : Found) → slice_get w.slots k ≡ Some s → s.found ≡ Some found → found ≡ near s.job
