-- What is due: blocks, each with the head of its frame, and the jobs that they stand for.
use Rattle.std.specs.Prelude.{◌≡◌, ℕ, ◌+◌, ◌^◌, ◌<◌, ◌≤◌, List, [], ◌∷◌, map, length, slice_get, Some, IfSome}
use Rattle.std.specs.List.{flat_map}
use Rattle.ht_metric.specs.Jobs.{JobView, near}
use Rattle.ht_metric.specs.declared.found.Found.{Found}
use Rattle.ht_metric.specs.declared.place.Place.{Place}
use Rattle.ht_feed.specs.Items.{Headed, headed_of}

-- a block that is due, as contracts see it
pub record Due (H : Type 0) : Type 0 where
  pub head : H
  pub jobs : List JobView

module _ {H : Type 0} where
  abbrev pub due_of : H → List JobView → Due H
  due_of head jobs = record { head = head; jobs = jobs }

  abbrev pub headed_due : Due H → List (Headed H)
  headed_due d = map (headed_of d.head) d.jobs

  -- all jobs of the blocks that are due, in order, each with its head
  abbrev pub all_due : List (Due H) → List (Headed H)
  all_due blocks = flat_map headed_due blocks

  -- the jobs of each block
  abbrev pub jobs_in : List (Due H) → List (List JobView)
  jobs_in blocks = map (λ (d : Due H). d.jobs) blocks

-- all jobs of these blocks, in order
abbrev pub all_in : List (List JobView) → List JobView
all_in blocks = flat_map (λ (jobs : List JobView). jobs) blocks

-- how many jobs these blocks have
abbrev pub count_in : List (List JobView) → ℕ
count_in [] = 0
count_in (jobs ∷ blocks) = length jobs + count_in blocks

-- no block is without a job
abbrev pub NoneEmpty : List (List JobView) → Type 0
NoneEmpty [] = Unit {0}
NoneEmpty (jobs ∷ blocks) = (1 ≤ length jobs) × NoneEmpty blocks

-- the first of the jobs, where there is one, has this place
abbrev pub StartsAt : Place → List JobView → Type 0
StartsAt place jobs = IfSome (slice_get jobs 0) (λ job. job.place ≡ place)

-- the job that has `at` others before it, where there is one, has this place
abbrev pub IsPlaceAt : Place → List JobView → ℕ → Type 0
IsPlaceAt place jobs at = IfSome (slice_get jobs at) (λ job. job.place ≡ place)

-- each distance is below 2^66
abbrev pub AreBounded : List Found → Type 0
AreBounded found = (k : ℕ) (f : Found) → slice_get found k ≡ Some f → f.distance < 2 ^ 66

-- what is found for these jobs, of which there are fewer than 2^16
pub record AreHits (found : List Found) (jobs : List JobView) : Type 0 where
  pub are : found ≡ map near jobs
  pub below : AreBounded found
  pub few : length jobs < 2 ^ 16
