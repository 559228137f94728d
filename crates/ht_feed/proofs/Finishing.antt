-- What a feed did over a new in-flight reader, from one end to the other.
use Rattle.std.specs.Prelude.{◌≡◌, ◌≢◌, ℕ, List, [], ◌++◌, length, Option, Some, None, is_some, true, Result, Ok, Err, IsErr, IsErrAnd, MatchResult, OnOk}
use Rattle.std.proofs.Common.{refl, ap, ◌∙◌, sym, subst, append-nil, arith}
use Rattle.std.proofs.lemmas.Bool.{false≢true}
use Rattle.ht_io.specs.Devices.{Device, Grows, GrowsByPart, IsLater}
use Rattle.ht_io.proofs.Calls.{failed-later, grows_by_part-front, later-refl}
use Rattle.ht_fields.specs.Meanings.{Meaning}
use Rattle.ht_fields.specs.Readers.{ReaderView}
use Rattle.ht_runs.proofs.Known.{by_part}
use Rattle.ht_runs.specs.declared.faults.RunFault.{RunFault}
use Rattle.ht_runs.specs.declared.faults.RunFault.TheVariants.{Write, NoMemory as RunMemory}
use Rattle.ht_feed.specs.declared.stop.Stop.{Stop}
use Rattle.ht_feed.specs.declared.stop.Stop.TheVariants.{Whole, Refused, Broken, Lacking}
use Rattle.ht_feed.specs.declared.book_fault.BookFault.{BookFault}
use Rattle.ht_feed.specs.declared.book_fault.BookFault.TheVariants.{Failed, NoMemory}
use Rattle.ht_feed.specs.declared.ended.Ended.{Ended}
use Rattle.ht_feed.specs.declared.drive.DriveFault.{DriveFault}
use Rattle.ht_feed.specs.declared.drive.DriveFault.TheVariants.{Feed, NoMemory as DriveMemory, Work}
use Rattle.ht_feed.specs.Items.{Item, headed, frames_of, jobs_of}
use Rattle.ht_feed.specs.Consumers.{Telling}
use Rattle.ht_feed.specs.Dues.{all_due, jobs_in}
use Rattle.ht_feed.specs.InFlights.{InFlightView, in_flight_view}
use Rattle.ht_feed.specs.Reading.{ClosesBehind, ReadsBy, view}
use Rattle.ht_feed.specs.Stops.{ended_at, ended_by, failed_by, fault_of}
use Rattle.ht_feed.specs.Telling.{RunsInFlight, Seen, Tells, TellsBy, TellsPart, seen_by}
use Rattle.ht_feed.specs.Inputs.{TellsInput}
use Rattle.ht_feed.specs.Outcomes.{Comes, StopsAs, EndsPartly, EndsWhole, pieces_of}
use Rattle.ht_feed.proofs.Ending.{broken, in_part, refused, told_nothing, whole}
use Rattle.ht_feed.proofs.Filling.{none_in}

jobs_taken : {X : Type 0} (last taken jobs : List X) → last ≡ [] → jobs ≡ taken ++ last → jobs ≡ taken
jobs_taken {X = X} last taken jobs all is = is ∙ (ap (λ (xs : List X). taken ++ xs) all ∙ append-nil taken)

-- all pieces were put, where nothing is kept back
pieces_put : {X P : Type 0} (old new : List X → List P) (taken : List X) (put : List P) → ((more : List X) → old (taken ++ more) ≡ put ++ new more)
    → new [] ≡ [] → old taken ≡ put
pieces_put {P = P} old new taken put first none =
    ap old (sym (append-nil taken)) ∙ (first [] ∙ (ap (λ (xs : List P). put ++ xs) none ∙ append-nil put))

-- where a drive ends well nothing failed
none_failed : {X : Type 0} (driven : Result X (DriveFault BookFault)) → OnOk driven (failed_by driven ≡ None)
none_failed (Ok done) = refl
none_failed (Err fault) = tt

-- what a drive says that answers what failed
pub runs_so : {R H P X : Type 0} {before after : Seen H P} {in_flight : InFlightView R H} (driven : Result X (DriveFault BookFault))
    → TellsBy None (failed_by driven) before after → OnOk driven (is_some in_flight.stop ≡ true) → OnOk driven (jobs_in in_flight.due ≡ [])
    → RunsInFlight before after in_flight None (failed_by driven) driven
runs_so {X = X} driven tells ended none = record {
  tells = tells;
  ended = ended;
  none_due = none;
  well = none_failed driven;
  fault = λ fault is. ap (λ (r : Result X (DriveFault BookFault)). failed_by r) is;
  memory = λ is. ap (λ (r : Result X (DriveFault BookFault)). failed_by r) is;
  work = λ is. ap (λ (r : Result X (DriveFault BookFault)). failed_by r) is;
}

-- readers of R mean this and are here
module _ {R H P : Type 0} (means : R → List ℕ → Meaning (Item H)) (at : R → ℕ) (reader : R) (head : H) (source source' : Device ℕ) (a b : Telling H P) where
  abbrev start : ReaderView (Item H)
  start = view means at reader source

  abbrev pieces : List ℕ → List P
  pieces = pieces_of a.pieces head start

  -- the reader, with nothing in flight
  abbrev fresh : InFlightView R H
  fresh = in_flight_view reader None head 0 [] 0

  abbrev Came : Result Ended RunFault → Type 0
  Came result = Comes means at reader head source source' a b result

  -- what is seen of an in-flight reader that the feed leaves
  module _ (new : InFlightView R H) where
    abbrev first : Seen H P
    first = seen_by means at fresh source a

    abbrev last : Seen H P
    last = seen_by means at new source' b

    stopped : (stop : Stop) (x : Option Stop) (items : List (Item H)) → x ≡ Some stop → ReadsBy None x start last.standing.reader items
        → ClosesBehind start source' items stop
    stopped stop x items is reads = subst (λ (e : Option Stop). ReadsBy None e start last.standing.reader items) is reads

    module _ (tells : Tells first last) (none : all_due new.due ≡ []) (rests : a.Waits []) (nothing : b.Waits [] → b.pieces [] ≡ []) where
      all_put : Grows a.device b.device (a.pieces (headed head tells.items))
      all_put =
          let taken = jobs_taken (all_due new.due) tells.answered (headed head tells.items) none tells.jobs in
          let put = pieces_put a.pieces b.pieces tells.answered tells.put tells.first (nothing (subst b.Waits none (tells.waits rests))) in
          subst (λ (xs : List P). Grows a.device b.device xs) (sym put ∙ ap a.pieces (sym taken)) tells.grows

      frames_are : new.frames ≡ frames_of tells.items
      frames_are = let e = tells.frames in omega (arith, e)

      jobs_are : new.count ≡ length (jobs_of tells.items)
      jobs_are = let e = tells.count in omega (arith, e)

      lacked : (stop : Option Stop) → new.stop ≡ stop → EndsPartly start pieces source' a.device b.device
      lacked stop is =
          in_part start a.pieces head source' a.device b.device last.standing.reader tells.items stop tells.answered (all_due new.due) refl
          (subst (λ (e : Option Stop). ReadsBy None e start last.standing.reader tells.items) is tells.reads) tells.jobs
          (λ more. subst (λ (xs : List P). GrowsByPart a.device b.device xs) (sym (tells.first more))
          (grows_by_part-front a.device b.device tells.put (b.pieces more) (by_part a.device b.device tells.put tells.grows)))

      ends : (stop : Option Stop) → new.stop ≡ stop → is_some stop ≡ true → Came (ended_at stop new.frames new.count)
      ends None is some = absurd (false≢true some)
      ends (Some Whole) is some =
          let c = stopped Whole new.stop tells.items is tells.reads in
          whole start a.pieces head source' a.device b.device c.between tells.items c.gives all_put (record { frames = new.frames; jobs = new.count })
          c.closes frames_are jobs_are
      ends (Some (Refused fault)) is some =
          let c = stopped (Refused fault) new.stop tells.items is tells.reads in
          refused start a.pieces head source' a.device b.device c.between tells.items c.gives all_put fault c.closes
      ends (Some Broken) is some =
          let c = stopped Broken new.stop tells.items is tells.reads in (
            broken start a.pieces head source' a.device b.device c.between tells.items c.gives all_put c.closes.0,
            failed-later source c.between.source source' c.later c.closes.1,
          )
      ends (Some Lacking) is some = lacked (Some Lacking) is

    part_told : (fault : BookFault) → TellsPart first last fault → EndsPartly start pieces source' a.device b.device
    part_told fault part =
        in_part start a.pieces head source' a.device b.device last.standing.reader part.items new.stop part.answered part.rest refl part.reads part.jobs
        part.part

    stops_as : (fault : BookFault) → TellsPart first last fault → StopsAs start pieces source' a.device b.device (fault_of fault)
    stops_as Failed part = (part_told Failed part, part.cause refl)
    stops_as NoMemory part = part_told NoMemory part

    -- what a drive says of a new in-flight reader
    abbrev pub Heard : {X : Type 0} → Option BookFault → Result X (DriveFault BookFault) → Type 0
    Heard failed driven = RunsInFlight first last new None failed driven

    -- where memory lacked before all was read, a part was put
    told_in_part : Tells first last → EndsPartly start pieces source' a.device b.device
    told_in_part tells =
        in_part start a.pieces head source' a.device b.device last.standing.reader tells.items new.stop tells.answered
        (all_due new.due) refl tells.reads tells.jobs
        (λ more. subst (λ (xs : List P). GrowsByPart a.device b.device xs) (sym (tells.first more))
        (grows_by_part-front a.device b.device tells.put (b.pieces more) (by_part a.device b.device tells.put tells.grows)))

    told_well : (failed : Option BookFault) → failed ≡ None → TellsBy None failed first last → Tells first last
    told_well failed is told = subst (λ (f : Option BookFault). TellsBy None f first last) is told

    told_ill : (failed : Option BookFault) (fault : BookFault) → failed ≡ Some fault → TellsBy None failed first last → TellsPart first last fault
    told_ill failed fault is told = subst (λ (f : Option BookFault). TellsBy None f first last) is told

    -- no fault of a device is taken back
    pub reads_later : (failed : Option BookFault) → TellsBy None failed first last → IsLater source source'
    reads_later None told = told.reads_later
    reads_later (Some fault) told = told.reads_later

    pub puts_later : (failed : Option BookFault) → TellsBy None failed first last → IsLater a.device b.device
    puts_later None told = told.puts_later
    puts_later (Some fault) told = told.puts_later

    -- where the answer isn't Write the consumer's device never failed
    steady_by : {X : Type 0} (failed : Option BookFault) (driven : Result X (DriveFault BookFault)) → Heard failed driven
        → ended_by new.stop new.frames new.count driven ≢ Err Write → b.device.faults ≡ a.device.faults
    steady_by failed (Ok done) h other = (told_well failed h.well h.tells).steady
    steady_by failed (Err (Feed Failed)) h other = absurd (other refl)
    steady_by failed (Err (Feed NoMemory)) h other = (told_ill failed NoMemory (h.fault NoMemory refl) h.tells).steady refl
    steady_by failed (Err DriveMemory) h other = (told_well failed (h.memory refl) h.tells).steady
    steady_by failed (Err Work) h other = (told_well failed (h.work refl) h.tells).steady

    pub steady : {X : Type 0} (failed : Option BookFault) (driven : Result X (DriveFault BookFault)) (result : Result Ended RunFault)
        → Heard failed driven → result ≡ ended_by new.stop new.frames new.count driven → result ≢ Err Write → b.device.faults ≡ a.device.faults
    steady failed driven result h is other = steady_by failed driven h (λ e. other (is ∙ e))

    heard_by : {X : Type 0} (failed : Option BookFault) (driven : Result X (DriveFault BookFault)) → Heard failed driven → a.Waits []
        → (b.Waits [] → b.pieces [] ≡ [])
        → Came (ended_by new.stop new.frames new.count driven)
    heard_by failed (Ok done) h rests nothing =
        ends (told_well failed h.well h.tells) (ap all_due (none_in new.due h.none_due)) rests nothing new.stop refl h.ended
    heard_by failed (Err (Feed fault)) h rests nothing = stops_as fault (told_ill failed fault (h.fault fault refl) h.tells)
    heard_by failed (Err DriveMemory) h rests nothing = told_in_part (told_well failed (h.memory refl) h.tells)
    heard_by failed (Err Work) h rests nothing = told_in_part (told_well failed (h.work refl) h.tells)

    -- the end of the reading, as its drive and its in-flight reader tell it
    pub heard : {X : Type 0} (failed : Option BookFault) (driven : Result X (DriveFault BookFault)) (result : Result Ended RunFault)
        → Heard failed driven → a.Waits [] → (b.Waits [] → b.pieces [] ≡ []) → result ≡ ended_by new.stop new.frames new.count driven → Came result
    heard failed driven result h rests nothing is = subst Came (sym is) (heard_by failed driven h rests nothing)

-- an answer that is a fault of this kind
pub stops_with : (result : Result Ended RunFault) (P : Ended → Type 0) (R Q : RunFault → Type 0) → IsErr result → IsErrAnd result Q
    → ((e : RunFault) → Q e → R e)
    → MatchResult result P R
stops_with (Ok x) P R Q is and so = absurd (false≢true is)
stops_with (Err e) P R Q is and so = so e and

module _ {R H P : Type 0} {means : R → List ℕ → Meaning (Item H)} {at : R → ℕ} {reader : R} {head : H} where
  -- memory lacked before the first call of an in-flight reader
  pub told_lacking : {source : Device ℕ} {a : Telling H P} {lent : List ℕ} {result : Result Ended RunFault}
      → IsErr result → IsErrAnd result (λ f. f ≡ RunMemory) → TellsInput means at reader head source source a a lent lent result
  told_lacking {source} {a} {lent} {result} is and =
      let start = view means at reader source in
      let pieces = pieces_of a.pieces head start in
      record {
        tells = stops_with result (EndsWhole start pieces source a.device a.device) (StopsAs start pieces source a.device a.device) (λ f. f ≡ RunMemory) is and
            (λ f same. subst (λ (fault : RunFault). StopsAs start pieces source a.device a.device fault) (sym same) (told_nothing start pieces a.device));
        writes = λ other. refl;
        reads_later = later-refl source;
        puts_later = later-refl a.device;
        same = refl;
      }

  -- what a drive and its in-flight reader say of an input
  pub told_input : {X : Type 0} {source source' : Device ℕ} {a b : Telling H P} {new : InFlightView R H} {failed : Option BookFault}
      {driven : Result X (DriveFault BookFault)} {lent lent' : List ℕ} {result : Result Ended RunFault}
      → Heard means at reader head source source' a b new failed driven → a.Waits [] → (b.Waits [] → b.pieces [] ≡ [])
      → result ≡ ended_by new.stop new.frames new.count driven → lent' ≡ lent → TellsInput means at reader head source source' a b lent lent' result
  told_input {X} {source} {source'} {a} {b} {new} {failed} {driven} {lent} {lent'} {result} h rests nothing is same = record {
    tells = heard means at reader head source source' a b new failed driven result h rests nothing is;
    writes = steady means at reader head source source' a b new failed driven result h is;
    reads_later = reads_later means at reader head source source' a b new failed h.tells;
    puts_later = puts_later means at reader head source source' a b new failed h.tells;
    same = same;
  }
