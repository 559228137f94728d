-- What a window does with what was found for a job.
use Rattle.std.specs.Prelude.{◌≡◌, ◌≢◌, ◌↔◌, ◌-◌, ℕ, slice_get, slice_set, Some}
use Rattle.ht_metric.specs.Jobs.{JobView}
use Rattle.ht_window.specs.declared.slot.Slot.{Slot}
use Rattle.ht_window.specs.declared.window.Accepted.{Accepted}
use Rattle.ht_window.specs.declared.window.Accepted.TheVariants.{Booked, Twice, Stranger}
use Rattle.ht_window.specs.Windows.{WindowView, IsWindow, unbooked, booked, jobs as jobs_of}

-- slot k, counted from the front
abbrev pub IsSlot : WindowView → ℕ → Slot → Type 0
IsSlot w k s = slice_get w.slots k ≡ Some s

-- a slot holds this job and waits for its answer
abbrev pub IsUnbooked : WindowView → JobView → Type 0
IsUnbooked w job = (k : ℕ) × IsSlot w k (unbooked job)

-- a slot holds this job with its answer
abbrev pub IsBooked : WindowView → JobView → Type 0
IsBooked w job = (k : ℕ) × IsSlot w k (booked job)

-- no slot holds this job
abbrev pub IsStrange : WindowView → JobView → Type 0
IsStrange w job = (k : ℕ) (s : Slot) → IsSlot w k s → s.job ≢ job

-- the slot at the number of the job now has its answer, and all else is as before
abbrev pub Books : WindowView → JobView → WindowView → Type 0
Books old job new =
    new ≡ record {
      capacity = old.capacity;
      front = old.front;
      slots = slice_set old.slots (job.number - old.front) (booked job);
    }

-- when each answer comes to what was found for a job, and what it leaves
pub record Accepts (old : WindowView) (job : JobView) (answer : Accepted) (new : WindowView) : Type 0 where
  pub booked : answer ≡ Booked ↔ IsUnbooked old job
  pub twice : answer ≡ Twice ↔ IsBooked old job
  pub stranger : answer ≡ Stranger ↔ IsStrange old job
  pub books : answer ≡ Booked → Books old job new
  pub refused : answer ≢ Booked → new ≡ old
  pub jobs : jobs_of new.slots ≡ jobs_of old.slots
  pub window : IsWindow new
