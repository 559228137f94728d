-- What it comes to that a lane over a new in-flight reader ran to its end, or as far as memory lasted.
use Rattle.std.specs.Prelude.{◌≡◌, ◌≢◌, ℕ, List, [], Option, Some, None, true, false, is_some, Result, Err}
use Rattle.std.proofs.Common.{refl, sym, subst}
use Rattle.ht_io.specs.Devices.{Device, GrowsByPart, IsLater}
use Rattle.ht_io.proofs.Calls.{grows_by_part-front}
use Rattle.ht_fields.specs.Meanings.{Meaning}
use Rattle.ht_runs.proofs.Known.{by_part}
use Rattle.ht_runs.specs.declared.faults.RunFault.{RunFault}
use Rattle.ht_runs.specs.declared.faults.RunFault.TheVariants.{Write, NoMemory as RunMemory}
use Rattle.ht_feed.specs.declared.ended.Ended.{Ended}
use Rattle.ht_feed.specs.declared.book_fault.BookFault.{BookFault}
use Rattle.ht_feed.specs.declared.book_fault.BookFault.TheVariants.{Failed, NoMemory}
use Rattle.ht_feed.specs.Items.{Item}
use Rattle.ht_feed.specs.Consumers.{Telling}
use Rattle.ht_feed.specs.Dues.{all_due, jobs_in}
use Rattle.ht_feed.specs.InFlights.{InFlightView, in_flight_view}
use Rattle.ht_feed.specs.Outcomes.{Comes}
use Rattle.ht_feed.specs.Telling.{Seen, Tells, TellsBy, TellsPart, seen_by}
use Rattle.ht_feed.proofs.Finishing.{Heard, heard, puts_later, reads_later, runs_so, steady}
use Rattle.ht_lanes.specs.InFlightLanes.{driven_so, ended_so, is_over}

-- readers of R mean this and are here; a reader in front of its source, and its consumer; and what a lane over a new in-flight reader left
module _ {R H P : Type 0} (means : R → List ℕ → Meaning (Item H)) (at : R → ℕ) (reader : R) (head : H) (source source' : Device ℕ) (a b : Telling H P)
    (new : InFlightView R H) where
  abbrev first : Seen H P
  first = seen_by means at (in_flight_view reader None head 0 [] 0) source a

  abbrev last : Seen H P
  last = seen_by means at new source' b

  abbrev Came : Result Ended RunFault → Type 0
  Came result = Comes means at reader head source source' a b result

  -- a call failed so, seen by any consumer in front of a device
  ill : (consumer : Telling H P) (fault : BookFault) → TellsPart first (seen_by means at new source' consumer) fault
      → Heard means at reader head source source' a consumer new (Some fault) (driven_so (Some fault))
  ill consumer fault told = runs_so (driven_so (Some fault)) told tt tt

  -- none failed, and the reading stopped
  well : TellsBy None None first last → is_some new.stop ≡ true → jobs_in new.due ≡ [] → Heard means at reader head source source' a b new None (driven_so None)
  well told stopped none = runs_so (driven_so None) told stopped none

  -- where a call failed it doesn't matter what is put of hits that still come
  abbrev silent : Telling H P
  silent = record { device = b.device; pieces = λ jobs. []; Waits = λ due. Unit {0} }

  unheard : (fault : BookFault) → TellsPart first last fault → TellsPart first (seen_by means at new source' silent) fault
  unheard fault told = record {
    items = told.items;
    answered = told.answered;
    rest = told.rest;
    reads = told.reads;
    jobs = told.jobs;
    part = told.part;
    reads_later = told.reads_later;
    puts_later = told.puts_later;
    cause = told.cause;
    steady = told.steady;
  }

  -- a call failed, and what was kept back is lost
  failed_ends : (fault : BookFault) → a.Waits [] → TellsPart first last fault → Came (ended_so (Some fault) new.stop new.frames new.count)
  failed_ends fault rests told =
      heard means at reader head source source' a silent new (Some fault) (driven_so (Some fault)) (ended_so (Some fault) new.stop new.frames new.count)
      (ill silent fault (unheard fault told)) rests (λ w. refl) refl

  -- memory lacked elsewhere, and what was kept back is lost
  lacks_elsewhere : Tells first last → TellsPart first last NoMemory
  lacks_elsewhere told = record {
    items = told.items;
    answered = told.answered;
    rest = all_due new.due;
    reads = told.reads;
    jobs = told.jobs;
    part = λ more. subst (λ (xs : List P). GrowsByPart a.device b.device xs) (sym (told.first more))
        (grows_by_part-front a.device b.device told.put (b.pieces more) (by_part a.device b.device told.put told.grows));
    reads_later = told.reads_later;
    puts_later = told.puts_later;
    cause = λ failed. cc;
    steady = λ lack. told.steady;
  }

  module _ (rests : a.Waits []) where
    -- the lane is over, and if it takes answers it waits for none and keeps nothing back
    pub lane_ends : (failed : Option BookFault) → TellsBy None failed first last → is_over failed new.stop ≡ true
        → (is_some failed ≡ false → jobs_in new.due ≡ []) → (is_some failed ≡ false → b.pieces [] ≡ [])
        → Came (ended_so failed new.stop new.frames new.count)
    lane_ends (Some fault) told over none nothing = failed_ends fault rests told
    lane_ends None told over none nothing =
        heard means at reader head source source' a b new None (driven_so None) (ended_so None new.stop new.frames new.count)
        (well told over (none refl)) rests (λ w. nothing refl) refl

    -- memory lacked, here or elsewhere
    pub lane_lacks : (failed : Option BookFault) → TellsBy None failed first last → Came (Err RunMemory)
    lane_lacks (Some Failed) told = (failed_ends Failed rests told).0
    lane_lacks (Some NoMemory) told = failed_ends NoMemory rests told
    lane_lacks None told = failed_ends NoMemory rests (lacks_elsewhere told)

  -- where the lane doesn't end with Write its sink never failed
  pub lane_steady : (failed : Option BookFault) → TellsBy None failed first last → is_over failed new.stop ≡ true
      → (is_some failed ≡ false → jobs_in new.due ≡ []) → ended_so failed new.stop new.frames new.count ≢ Err Write → b.device.faults ≡ a.device.faults
  lane_steady (Some fault) told over none =
      steady means at reader head source source' a b new (Some fault) (driven_so (Some fault)) (ended_so (Some fault) new.stop new.frames new.count)
      (ill b fault told) refl
  lane_steady None told over none =
      steady means at reader head source source' a b new None (driven_so None) (ended_so None new.stop new.frames new.count) (well told over (none refl)) refl

  -- no fault of a device is taken back
  pub lane_reads_later : (failed : Option BookFault) → TellsBy None failed first last → IsLater source source'
  lane_reads_later failed told = reads_later means at reader head source source' a b new failed told

  pub lane_puts_later : (failed : Option BookFault) → TellsBy None failed first last → IsLater a.device b.device
  lane_puts_later failed told = puts_later means at reader head source source' a b new failed told
