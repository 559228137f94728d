-- A lane over an in-flight reader.
use Rattle.std.specs.Prelude.{◌≡◌, ℕ, List, Option, Some, None, Bool, true, is_some, Result, Ok, Err}
use Rattle.std.proofs.Common.{refl}
use Rattle.std.proofs.lemmas.Bool.{false≢true}
use Rattle.ht_io.specs.Devices.{Device}
use Rattle.ht_fields.specs.Meanings.{Meaning}
use Rattle.ht_runs.specs.declared.faults.RunFault.{RunFault}
use Rattle.ht_feed.specs.declared.stop.Stop.{Stop}
use Rattle.ht_feed.specs.declared.ended.Ended.{Ended}
use Rattle.ht_feed.specs.declared.book_fault.BookFault.{BookFault}
use Rattle.ht_feed.specs.declared.drive.DriveFault.{DriveFault}
use Rattle.ht_feed.specs.declared.drive.DriveFault.TheVariants.{Feed}
use Rattle.ht_feed.specs.Consumers.{Telling}
use Rattle.ht_feed.specs.Items.{Headed, Item}
use Rattle.ht_feed.specs.Leading.{tells_by-none, tells_by-on}
use Rattle.ht_feed.specs.Stops.{ended_by}
use Rattle.ht_feed.specs.Telling.{Seen, TellsBy, seen_by}
use Rattle.ht_lanes.specs.declared.in_flight_lane.InFlightLane.{InFlightLane}
use Rattle.ht_lanes.specs.Lanes.{Side}

-- the consumer failed, or the reading stopped
abbrev pub is_over : Option BookFault → Option Stop → Bool
is_over (Some fault) stop = true
is_over None stop = is_some stop

pub rests_over : (failed : Option BookFault) (stop : Option Stop) → is_some failed ≡ true → is_over failed stop ≡ true
rests_over (Some fault) stop is = refl
rests_over None stop is = absurd (false≢true is)

-- what a drive over this lane alone would have answered, where its consumer failed so or did not
abbrev pub driven_so : Option BookFault → Result (Unit {0}) (DriveFault BookFault)
driven_so (Some fault) = Err (Feed fault)
driven_so None = Ok tt

-- how the reading of its input ended
abbrev pub ended_so : Option BookFault → Option Stop → ℕ → ℕ → Result Ended RunFault
ended_so failed stop frames jobs = ended_by stop frames jobs (driven_so failed)

-- a consumer in front of a device: what it puts in all if these hits still come; it says nothing of what it keeps back
abbrev pub lane_telling : {A H : Type 0} → (A → List (Headed H) → List ℕ) → A → Device ℕ → Telling H ℕ
lane_telling pieces consumer device = record { device = device; pieces = pieces consumer; Waits = λ due. Unit {0} }

-- a lane's reader of R means this and is here, and its consumer of A puts this in all; its devices show this
module _ {R A H B S K : Type 0} (means : R → List ℕ → Meaning (Item H)) (at : R → ℕ) (pieces : A → List (Headed H) → List ℕ) (source : S → Device ℕ)
    (sink : K → Device ℕ) where
  abbrev pub seen_of : Side (InFlightLane R A H B) S K → Seen H ℕ
  seen_of a = seen_by means at a.lane.in_flight (source a.source) (lane_telling pieces a.lane.consumer (sink a.sink))

  -- what a lane did with its devices: what was read, which hits were taken, and what was put
  abbrev pub LeadsOn : Side (InFlightLane R A H B) S K → Side (InFlightLane R A H B) S K → Type 0
  LeadsOn a b = TellsBy a.lane.failed b.lane.failed (seen_of a) (seen_of b)

  pub leads_on-none : (a : Side (InFlightLane R A H B) S K) → LeadsOn a a
  leads_on-none a = tells_by-none a.lane.failed (seen_of a)

  pub leads_on-more : (a b c : Side (InFlightLane R A H B) S K) → LeadsOn a b → LeadsOn b c → LeadsOn a c
  leads_on-more a b c = tells_by-on a.lane.failed b.lane.failed c.lane.failed (seen_of a) (seen_of b) (seen_of c)
