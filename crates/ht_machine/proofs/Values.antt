-- Worked values: two actors, a window of two, the jobs a and b.
use Rattle.std.proofs.Common.{◌≡◌, ◌==◌, [], ◌∷◌, true, false, refl}
use Rattle.std.specs.Prelude.{Some, None}
use Rattle.ht_metric.specs.Jobs.{JobView}
use Rattle.ht_metric.specs.declared.hit.Hit.{Hit}
use Rattle.ht_machine.specs.declared.event.Event.TheVariants.{Issue, Push, Pop, Steal, Finish}
use Rattle.ht_machine.specs.declared.event.Spot.TheVariants.{Hand, Deque, Results}
use Rattle.ht_machine.specs.Machine.{MachineView, after, after_all, empty, hit_of, without}
use Rattle.ht_machine.specs.Facts.{places, jobs_at}

abbrev none_yet : MachineView
none_yet = record { workers = 2; window = 2; issued = []; hands = None ∷ None ∷ []; deques = [] ∷ [] ∷ []; results = []; booked = []; emitted = [] }

begins : empty 2 2 ≡ none_yet
begins = refl

issued : (a : JobView) → after_all (empty 2 2) (Issue a ∷ [])
    ≡ record { workers = 2; window = 2; issued = a ∷ []; hands = Some a ∷ None ∷ []; deques = [] ∷ [] ∷ []; results = []; booked = []; emitted = [] }
issued a = refl

abbrev pushed : JobView → JobView → MachineView
pushed a b = after_all (empty 2 2) (Issue a ∷ Push 0 ∷ Issue b ∷ Push 0 ∷ [])

-- what is pushed later is behind
in_order : (a b : JobView) → (pushed a b).deques ≡ (a ∷ b ∷ []) ∷ [] ∷ []
in_order a b = refl

-- a steal and a pop take the front
stolen : (a b : JobView) → (after (pushed a b) (Steal 1 0)).hands ≡ None ∷ Some a ∷ []
stolen a b = refl

left : (a b : JobView) → (after (pushed a b) (Steal 1 0)).deques ≡ (b ∷ []) ∷ [] ∷ []
left a b = refl

popped : (a b : JobView) → (after (pushed a b) (Pop 0)).hands ≡ Some a ∷ None ∷ []
popped a b = refl

abbrev both : JobView → JobView → Hit → MachineView
both a b hit = after_all (pushed a b) (Steal 1 0 ∷ Pop 0 ∷ Finish 0 hit ∷ [])

finished : (a b : JobView) (hit : Hit) → (both a b hit).results ≡ hit ∷ []
finished a b hit = refl

put_down : (a b : JobView) (hit : Hit) → (both a b hit).hands ≡ None ∷ Some a ∷ []
put_down a b hit = refl

everywhere : (a b : JobView) (hit : Hit) → places (both a b hit) ≡ a ∷ hit.job ∷ []
everywhere a b hit = refl

in_hand : (a b : JobView) (hit : Hit) → jobs_at (both a b hit) (Hand 1) ≡ a ∷ []
in_hand a b hit = refl

among_results : (a b : JobView) (hit : Hit) → jobs_at (both a b hit) Results ≡ hit.job ∷ []
among_results a b hit = refl

no_such_actor : (a b : JobView) (hit : Hit) → jobs_at (both a b hit) (Deque 7) ≡ []
no_such_actor a b hit = refl

-- a hit is found by its number
second : (one two : Hit) → (one.job.number == 5) ≡ false → (two.job.number == 5) ≡ true → hit_of 5 (one ∷ two ∷ []) ≡ Some two
second one two other it = rw (other, it) refl

others : (one two : Hit) → (one.job.number == 5) ≡ false → (two.job.number == 5) ≡ true → without 5 (one ∷ two ∷ []) ≡ one ∷ []
others one two other it = rw (other, it) refl
