-- The machine: its state, its events, which of them are enabled, and what each does.
use Rattle.std.specs.Prelude.{◌≡◌, ◌≢◌, ◌+◌, ◌<◌, ◌==◌, ℕ, List, [], ◌∷◌, ◌++◌, length, drop, replicate, slice_get, slice_index_or, slice_set}
use Rattle.std.specs.Prelude.{if◌then◌else◌, Option, Some, None, IsSome, OnErr, OnOk, Result, Bool, ⊤}
use Rattle.std.specs.List.{find}
use Rattle.std.specs.Option.{option_to_list}
use Rattle.ht_metric.specs.Jobs.{JobView}
use Rattle.ht_metric.specs.declared.hit.Hit.{Hit}
use Rattle.ht_machine.specs.declared.event.Event.{Event}
use Rattle.ht_machine.specs.declared.event.Event.TheVariants.{Issue, Push, Pop, Steal, Finish, Accept, Emit}

-- the jobs issued so far, in order; what each actor has in hand; each actor's deque, from its front on; the hits that
-- were finished, those that were booked, and those that were emitted, in order
pub record MachineView : Type 0 where
  pub workers : ℕ
  pub window : ℕ
  pub issued : List JobView
  pub hands : List (Option JobView)
  pub deques : List (List JobView)
  pub results : List Hit
  pub booked : List Hit
  pub emitted : List Hit

-- the state of these parts
abbrev pub machine_view : ℕ → ℕ → List JobView → List (Option JobView) → List (List JobView) → List Hit → List Hit → List Hit → MachineView
machine_view workers window issued hands deques results booked emitted = record {
  workers = workers;
  window = window;
  issued = issued;
  hands = hands;
  deques = deques;
  results = results;
  booked = booked;
  emitted = emitted;
}

-- what an actor has in hand, and its deque
abbrev pub hand : MachineView → ℕ → Option JobView
hand c a = slice_index_or c.hands a None

abbrev pub deque : MachineView → ℕ → List JobView
deque c a = slice_index_or c.deques a []

-- the hit of the job of this number, and the hits without it
abbrev pub has_number : ℕ → Hit → Bool
has_number n hit = hit.job.number == n

abbrev pub hit_of : ℕ → List Hit → Option Hit
hit_of n hits = find (has_number n) hits

abbrev pub without : ℕ → List Hit → List Hit
without n [] = []
without n (hit ∷ hits) = if has_number n hit then hits else hit ∷ without n hits

-- whether an event may come
abbrev pub IsEnabled : MachineView → Event → Type 0
IsEnabled c (Issue job) = (hand c 0 ≡ None) × (length c.issued < length c.emitted + c.window) × (job.number ≡ length c.issued)
IsEnabled c (Push a) = (a < c.workers) × IsSome (hand c a)
IsEnabled c (Pop a) = (a < c.workers) × (hand c a ≡ None) × (0 < length (deque c a))
IsEnabled c (Steal thief owner) = (thief < c.workers) × (owner < c.workers) × (thief ≢ owner) × (hand c thief ≡ None) × (0 < length (deque c owner))
IsEnabled c (Finish a hit) = (a < c.workers) × (hand c a ≡ Some hit.job)
IsEnabled c (Accept n) = IsSome (hit_of n c.results)
IsEnabled c Emit = IsSome (hit_of (length c.emitted) c.booked)

-- the front of a deque goes into a hand
abbrev pub taken : MachineView → ℕ → ℕ → MachineView
taken c a owner = record c { hands = slice_set c.hands a (slice_get (deque c owner) 0); deques = slice_set c.deques owner (drop 1 (deque c owner)) }

-- the state after an event
abbrev pub after : MachineView → Event → MachineView
-- the job is in the caller's hand
after c (Issue job) = record c { issued = c.issued ++ job ∷ []; hands = slice_set c.hands 0 (Some job) }
-- the job in the hand is the last of the actor's deque
after c (Push a) = record c { hands = slice_set c.hands a None; deques = slice_set c.deques a (deque c a ++ option_to_list (hand c a)) }
after c (Pop a) = taken c a a
after c (Steal thief owner) = taken c thief owner
-- the hit is among the results, and the hand is empty
after c (Finish a hit) = record c { hands = slice_set c.hands a None; results = c.results ++ hit ∷ [] }
-- the result of this number is booked
after c (Accept n) = record c { results = without n c.results; booked = c.booked ++ option_to_list (hit_of n c.results) }
-- the booked hit of the lowest number that is not emitted is the last one emitted
after c Emit = record c { booked = without (length c.emitted) c.booked; emitted = c.emitted ++ option_to_list (hit_of (length c.emitted) c.booked) }

-- what it comes to that an enabled event is made: it is, or there was no memory and nothing changed
pub record Makes {A E : Type 0} (event : Event) (old new : MachineView) (result : Result A E) : Type 0 where
  pub made : OnOk result (new ≡ after old event)
  pub unchanged : OnErr result (new ≡ old)

-- nothing is issued yet
abbrev pub empty : ℕ → ℕ → MachineView
empty workers window = machine_view workers window [] (replicate workers None) (replicate workers []) [] [] []

-- the state after these events, and whether each is enabled in its turn
abbrev pub after_all : MachineView → List Event → MachineView
after_all c [] = c
after_all c (e ∷ es) = after_all (after c e) es

-- each of these events is enabled in its turn
abbrev pub IsLegal : MachineView → List Event → Type 0
IsLegal c [] = ⊤
IsLegal c (e ∷ es) = IsEnabled c e × IsLegal (after c e) es
