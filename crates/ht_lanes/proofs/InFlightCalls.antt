-- What the calls of a lane over an in-flight reader lead to.
use Rattle.std.specs.Prelude.{◌≡◌, ℕ, List, [], ◌∷◌, ◌++◌, Option, Some, None, true, false, is_some, Result, Ok, Err, OnErr, OnOk}
use Rattle.std.proofs.Common.{refl, ap, ◌∙◌, sym, subst, append-nil}
use Rattle.std.proofs.lemmas.Bool.{false≢true}
use Rattle.ht_io.specs.Devices.{Device}
use Rattle.ht_fields.specs.Meanings.{Meaning}
use Rattle.ht_metric.specs.Jobs.{JobView}
use Rattle.ht_feed.specs.declared.stop.Stop.{Stop}
use Rattle.ht_feed.specs.declared.book_fault.BookFault.{BookFault}
use Rattle.ht_feed.specs.Consumers.{BooksJobs, Telling}
use Rattle.ht_feed.specs.Items.{Item, Headed}
use Rattle.ht_feed.specs.Dues.{Due, all_due, jobs_in}
use Rattle.ht_feed.specs.InFlights.{AddsBlock, InFlightView, ReadsMore}
use Rattle.ht_feed.specs.Leading.{tells-none}
use Rattle.ht_feed.specs.Reading.{Counts}
use Rattle.ht_feed.specs.Telling.{Seen, Tells, TellsBy, seen_by}
use Rattle.ht_feed.proofs.Filling.{jobs_in-append}
use Rattle.ht_feed.proofs.Leads.{ill, tells_given, tells_part, tells_put, tells_refused, tells_taken, well}
use Rattle.ht_lanes.specs.LaneConsumers.{BooksFirstDue}
use Rattle.ht_lanes.specs.InFlightLanes.{is_over, lane_telling}

-- a lane that goes on neither failed nor stopped
pub goes : (failed : Option BookFault) (stop : Option Stop) → is_over failed stop ≡ false → (failed ≡ None) × (stop ≡ None)
goes (Some fault) stop is = absurd (false≢true (sym is))
goes None (Some other) is = absurd (false≢true (sym is))
goes None None is = (refl, refl)

pub well_so : (failed : Option BookFault) → is_some failed ≡ false → failed ≡ None
well_so (Some fault) is = absurd (false≢true (sym is))
well_so None is = refl

pub over_so : (failed : Option BookFault) (stop : Option Stop) → is_some stop ≡ true → is_over failed stop ≡ true
over_so (Some fault) stop is = refl
over_so None stop is = is

module _ {R H : Type 0} (means : R → List ℕ → Meaning (Item H)) (at : R → ℕ) where
  -- the in-flight reader was asked, and read on or lacked memory
  pub asked : {X E : Type 0} (old new : InFlightView R H) (source after : Device ℕ) (consumer : Telling H ℕ) (result : Result X E)
      → ((due : List (Headed H)) (h : Headed H) → consumer.Waits due → consumer.Waits (due ++ h ∷ []))
      → OnOk result (ReadsMore means at old new source after) → OnErr result ((new ≡ old) × (after ≡ source))
      → Tells (seen_by means at old source consumer) (seen_by means at new after consumer)
  asked old new source after consumer (Ok x) more reads lacks = tells_given means at old new source after consumer more reads
  asked old new source after consumer (Err e) more reads lacks =
      subst (λ (d : InFlightView R H). Tells (seen_by means at old source consumer) (seen_by means at d after consumer)) (sym lacks.0)
      (subst (λ (s : Device ℕ). Tells (seen_by means at old source consumer) (seen_by means at old s consumer)) (sym lacks.1)
      (tells-none (seen_by means at old source consumer)))

  -- what a consumer puts in all is told by its pieces; one that did not fail before was called
  module _ {A : Type 0} (pieces : A → List (Headed H) → List ℕ) (x y : A) (in_flight : InFlightView R H) (source before after : Device ℕ)
      (failed : Option BookFault)
      (none : failed ≡ None) where
    abbrev seen : InFlightView R H → Device ℕ → A → Seen H ℕ
    seen d device consumer = seen_by means at d source (lane_telling pieces consumer device)

    -- it took the hits of the first block
    pub took : {B : Type 0} {b : B} (new : InFlightView R H) → BooksFirstDue (Ok b) in_flight new before after (pieces x) (pieces y)
        → TellsBy failed failed (seen in_flight before x) (seen new after y)
    took new first =
        well failed failed (seen in_flight before x) (seen new after y) none refl
        (tells_taken means at in_flight new source (lane_telling pieces x before) (lane_telling pieces y after) first.due first.books (λ w. tt))

    -- it could not put their pieces, or not make them
    pub took_none : {B : Type 0} {fault : BookFault} (new : InFlightView R H)
        → BooksFirstDue {A = B} (Err fault) in_flight new before after (pieces x) (pieces y)
        → TellsBy failed (Some fault) (seen in_flight before x) (seen new after y)
    took_none {fault = fault} new first =
        ill failed (seen in_flight before x) (seen new after y) fault none
        (tells_refused means at in_flight new source (lane_telling pieces x before) (lane_telling pieces y after) fault first.stays first.books)

    -- it put what was kept back
    pub finished : {B : Type 0} {b : B} → BooksJobs (Ok b) before after (pieces x) (pieces y) [] [] []
        → TellsBy failed failed (seen in_flight before x) (seen in_flight after y)
    finished books =
        well failed failed (seen in_flight before x) (seen in_flight after y) none refl
        (tells_put means at in_flight in_flight.due source (lane_telling pieces x before) (lane_telling pieces y after) []
        (append-nil (all_due in_flight.due)) books
        (λ w. tt))

    -- not all of it could be put, or made
    pub unfinished : {B : Type 0} {fault : BookFault} → BooksJobs {A = B} (Err fault) before after (pieces x) (pieces y) [] [] []
        → TellsBy failed (Some fault) (seen in_flight before x) (seen in_flight after y)
    unfinished {fault = fault} books =
        ill failed (seen in_flight before x) (seen in_flight after y) fault none
        (tells_part means at in_flight source (lane_telling pieces x before) (lane_telling pieces y after) fault [] (all_due in_flight.due)
        (append-nil (all_due in_flight.due)) books)

-- a block more is due
pub one_more_due : {R H : Type 0} (counts : R → Counts) (most : ℕ) (old new : InFlightView R H) (jobs : List JobView) → AddsBlock counts most old new jobs
    → jobs_in new.due ≡ jobs_in old.due ++ jobs ∷ []
one_more_due {H = H} counts most old new jobs adds = ap (λ (ds : List (Due H)). jobs_in ds) adds.due ∙ jobs_in-append old.due _

-- a source that is the same is seen the same
pub lacking : {D S X E : Type 0} (old new : D) (source : S → Device ℕ) (before after : S) (result : Result X E)
    → OnErr result ((new ≡ old) × (after ≡ before)) → OnErr result ((new ≡ old) × (source after ≡ source before))
lacking old new source before after (Ok x) lacks = tt
lacking old new source before after (Err e) lacks = (lacks.0, ap source lacks.1)
