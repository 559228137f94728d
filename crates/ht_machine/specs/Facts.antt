-- What holds of the machine after every legal list of events.
use Rattle.std.specs.Prelude.{◌≡◌, ◌+◌, ◌<◌, ◌≤◌, ◌==◌, ℕ, List, ◌++◌, length, map, take, slice_get, IfSome, Some, Bool, true, false}
use Rattle.std.specs.List.{All, count_by, flat_map}
use Rattle.std.specs.Option.{option_to_list}
use Rattle.ht_list.specs.Counts.{SameCounts}
use Rattle.ht_metric.specs.Jobs.{JobView}
use Rattle.ht_metric.specs.declared.hit.Hit.{Hit}
use Rattle.ht_machine.specs.declared.event.Event.{Event}
use Rattle.ht_machine.specs.declared.event.Event.TheVariants.{Issue, Push, Pop, Steal, Finish, Accept, Emit}
use Rattle.ht_machine.specs.declared.event.Spot.{Spot}
use Rattle.ht_machine.specs.declared.event.Spot.TheVariants.{Hand, Deque, Results, Booked, Emitted}
use Rattle.ht_machine.specs.Machine.{MachineView, IsEnabled, hand, deque}

-- the jobs of hits
abbrev pub jobs_of : List Hit → List JobView
jobs_of hits = map (λ hit. hit.job) hits

-- the jobs in all places
abbrev pub places : MachineView → List JobView
places c = flat_map option_to_list c.hands ++ flat_map (λ jobs. jobs) c.deques ++ jobs_of c.results ++ jobs_of c.booked ++ jobs_of c.emitted

-- the job is the issued one of its number
abbrev pub IsIssued : List JobView → JobView → Type 0
IsIssued issued job = slice_get issued job.number ≡ Some job

-- what holds of every state of the machine
pub record IsMachine (c : MachineView) : Type 0 where
  -- an actor has a hand and a deque
  pub some : 1 ≤ c.workers
  pub few : c.workers ≤ 64
  pub hands : length c.hands ≡ c.workers
  pub deques : length c.deques ≡ c.workers
  pub wide : 1 ≤ c.window
  pub narrow : c.window ≤ 4096
  -- the issued jobs are numbered 0, 1, 2 and so on
  pub numbered : (k : ℕ) (job : JobView) → slice_get c.issued k ≡ Some job → job.number ≡ k
  -- each issued job stands in one place, once, and no other job stands in any
  pub once : SameCounts (places c) c.issued
  pub in_hand : All (λ h. IfSome h (IsIssued c.issued)) c.hands
  pub in_deque : All (All (IsIssued c.issued)) c.deques
  pub in_results : All (λ (hit : Hit). IsIssued c.issued hit.job) c.results
  pub in_booked : All (λ (hit : Hit). IsIssued c.issued hit.job) c.booked
  -- no more than the window are issued and not emitted
  pub window : length c.issued ≤ length c.emitted + c.window
  -- the emitted hits are those of the first issued jobs, in order
  pub emitted : jobs_of c.emitted ≡ take (length c.emitted) c.issued

-- the event issues a job
abbrev pub is_issue : Event → Bool
is_issue (Issue job) = true
is_issue (Push a) = false
is_issue (Pop a) = false
is_issue (Steal thief owner) = false
is_issue (Finish a hit) = false
is_issue (Accept n) = false
is_issue Emit = false

-- while an issued job is not emitted, some event other than Issue may come
abbrev pub CanGoOn : MachineView → Type 0
CanGoOn c = length c.emitted < length c.issued → (e : Event) × IsEnabled c e × (is_issue e ≡ false)

-- the jobs at a place, and how many of them have this number
abbrev pub jobs_at : MachineView → Spot → List JobView
jobs_at c (Hand a) = option_to_list (hand c a)
jobs_at c (Deque a) = deque c a
jobs_at c Results = jobs_of c.results
jobs_at c Booked = jobs_of c.booked
jobs_at c Emitted = jobs_of c.emitted

abbrev pub numbered : ℕ → List JobView → ℕ
numbered n jobs = count_by (λ j. j.number == n) jobs
