-- What the lanes of captures came to, capture by capture.
use Rattle.std.specs.Prelude.{◌≡◌, ◌≢◌, ℕ, ◌<◌, ◌≤◌, List, [], length, map, get_or, Bool, true, false, nat_lt, Option, None, Result, Ok, Err, IfOk}
use Rattle.std.proofs.Common.{refl, ap, ◌∙◌, sym, subst, arith}
use Rattle.std.specs.Global.{Vec}
use Rattle.std.proofs.lemmas.Bool.Decides.{nat_tests}
use Rattle.std.proofs.lemmas.List.{get_or-map, length-map}
use Rattle.ht_io.specs.Devices.{Device, IsLater}
use Rattle.ht_io.proofs.Calls.{later-refl}
use Rattle.ht_capture_blocks.specs.declared.reader.CaptureReader.{CaptureReader}
use Rattle.ht_capture.specs.declared.items.FrameHead.{FrameHead}
use Rattle.ht_runs.specs.declared.faults.RunFault.{RunFault}
use Rattle.ht_runs.specs.declared.faults.RunFault.TheVariants.{Read, Write, NoMemory}
use Rattle.ht_feed.specs.declared.ended.Ended.{Ended}
use Rattle.ht_feed.specs.declared.book_fault.BookFault.{BookFault}
use Rattle.ht_feed.specs.Consumers.{Telling}
use Rattle.ht_feed.specs.InFlights.{InFlightView, in_flight_view}
use Rattle.ht_feed.specs.Outcomes.{Comes}
use Rattle.ht_feed.specs.Telling.{TellsBy, seen_by}
use Rattle.ht_results.specs.Texts.{result_line, rx_text}
use Rattle.ht_rx.proofs.Blocks.{comes_to}
use Rattle.ht_rx.proofs.BlockBooking.{gathered_told}
use Rattle.ht_rx.proofs.Booking.{lines_told}
use Rattle.ht_lanes.specs.InFlightLanes.{lane_telling}
use Rattle.ht_lanes.specs.Lanes.{AreFinished, AreOver, HaveNone, RunsLanes, Side, Sides, side_at}
use Rattle.ht_lanes.proofs.LaneEnds.{lane_ends, lane_lacks, lane_puts_later, lane_reads_later, lane_steady}
use Rattle.ht_lanes.proofs.OneLane.{past_both, some_of}
use Rattle.ht_fields.proofs.Putting.{on_err_then}
use Rattle.ht_runs.proofs.Outcomes.{told_nothing}
use Rattle.ht_capture.specs.Fields.{captures}
use Rattle.ht_many.specs.declared.many_end.ManyEnd.{ManyEnd}
use Rattle.ht_many.specs.Alone.{Heard, PutsPieces}
use Rattle.ht_many.specs.Several.{AreLater, Devices, EachEnds, EachHeard, EachInPart, answer_at, devices}
use Rattle.ht_many.specs.LastLines.{EachFinishes, EachMayFinish, FinishesEach}
use Rattle.ht_many.proofs.LastLines.{each_ends, each_in_part, last_later}
use Rattle.ht_many.proofs.Ended.{heard_part}
use Rattle.ht_many.specs.CaptureLanes.{AreNew, AreOpen, IsNew, Lane, LaneLeads, LanesLead, lane_answer, lane_due, lane_finished, lane_over, lane_rests}
use Rattle.ht_many.specs.CaptureLanes.{lane_seen, reader_at, reader_means}
use Rattle.ht_many.specs.KeptFrames.{lines_left}
use Rattle.ht_many.specs.Receiving.{ReceivesEach}

-- what follows from what is said of a value
pub then_ok : {A E : Type 0} (P Q : A → Type 0) (result : Result A E) → ((x : A) → P x → Q x) → IfOk result P → IfOk result Q
then_ok P Q (Ok x) follows holds = follows x holds
then_ok P Q (Err e) follows holds = tt

-- of as many devices, each is the same at a later time, where the first ones are
later_at : {X : Type 0} (shown : X → Device ℕ) (xs ys : List X) (count : ℕ) → length ys ≡ length xs → length xs ≡ count
    → ((k : ℕ) (x : X) → k < count → IsLater (shown (get_or xs k x)) (shown (get_or ys k x)))
    → (k : ℕ) (x : X) → IsLater (shown (get_or xs k x)) (shown (get_or ys k x))
later_at {X = X} shown xs ys count same as_many first k x = all (nat_lt k count) refl
  where
    all : (u : Bool) → nat_lt k count ≡ u → IsLater (shown (get_or xs k x)) (shown (get_or ys k x))
    all true e = first k x (grind (arith, nat_tests, e))
    all false e =
        let high : count ≤ k = grind (arith, nat_tests, e) in
        subst (λ (y : X). IsLater (shown (get_or xs k x)) (shown y)) (sym (past_both xs ys k x same (omega (arith, high, as_many))))
        (later-refl (shown (get_or xs k x)))

-- how contracts see the source and the sink of a lane
module _ {S K : Type 0} (source : S → Device ℕ) (sink : K → Device ℕ) where
  -- a new lane did this
  module _ (a b : Side Lane S K) (new : IsNew a.lane) (leads : LaneLeads source sink a b) where
    abbrev before : Telling FrameHead ℕ
    before = lane_telling lines_left a.lane.consumer (sink a.sink)

    abbrev after : Telling FrameHead ℕ
    after = lane_telling lines_left b.lane.consumer (sink b.sink)

    from_new : TellsBy None b.lane.failed
        (seen_by reader_means reader_at (in_flight_view new.reader None new.head 0 [] 0) (source a.source) before) (lane_seen source sink b)
    from_new =
        subst (λ (d : InFlightView CaptureReader FrameHead). TellsBy None b.lane.failed
        (seen_by reader_means reader_at d (source a.source) before) (lane_seen source sink b)) new.in_flight
        (subst (λ (f : Option BookFault). TellsBy f b.lane.failed (lane_seen source sink a) (lane_seen source sink b)) new.well leads)

    -- what a run of any reader and consumer came to is said of the octets of the capture
    came_heard : (answer : Result Ended RunFault)
        → Comes reader_means reader_at new.reader new.head (source a.source) (source b.source) before after answer
        → Heard (source a.source) (source b.source) (sink a.sink) (sink b.sink) answer
    came_heard answer came =
        let none : a.lane.consumer.under_way.left ≤ 0 = let e = new.none in omega (arith, e) in
        lines_told answer (source a.source) (source b.source) (sink a.sink) (sink b.sink)
        (gathered_told result_line a.lane.consumer.whole a.lane.consumer.under_way answer (source a.source) (source b.source) (sink a.sink) (sink b.sink)
        new.fresh none
        (comes_to reader_means reader_at new.reader new.head (source a.source) (source b.source) before after answer
        new.means new.at came))

    side_heard : lane_over b.lane ≡ true → (lane_rests b.lane ≡ false → lane_due b.lane ≡ []) → (lane_rests b.lane ≡ false → lane_finished b.lane)
        → Heard (source a.source) (source b.source) (sink a.sink) (sink b.sink) (lane_answer b.lane)
    side_heard over taken finished =
        came_heard (lane_answer b.lane)
        (lane_ends reader_means reader_at new.reader new.head (source a.source) (source b.source) before after
        b.lane.in_flight tt b.lane.failed from_new over taken finished)

    side_steady : lane_over b.lane ≡ true → (lane_rests b.lane ≡ false → lane_due b.lane ≡ []) → lane_answer b.lane ≢ Err Write
        → (sink b.sink).faults ≡ (sink a.sink).faults
    side_steady over taken other =
        lane_steady reader_means reader_at new.reader new.head (source a.source) (source b.source) before after
        b.lane.in_flight b.lane.failed from_new over taken other

    -- memory lacked, here or elsewhere
    side_part : PutsPieces (source a.source) (source b.source) (sink a.sink) (sink b.sink)
    side_part =
        heard_part (source a.source) (source b.source) (sink a.sink) (Err NoMemory) (sink b.sink)
        (came_heard (Err NoMemory)
        (lane_lacks reader_means reader_at new.reader new.head (source a.source) (source b.source) before after
        b.lane.in_flight tt b.lane.failed from_new))

    side_reads_later : IsLater (source a.source) (source b.source)
    side_reads_later =
        lane_reads_later reader_means reader_at new.reader new.head (source a.source) (source b.source) before after
        b.lane.in_flight b.lane.failed from_new

    side_puts_later : IsLater (sink a.sink) (sink b.sink)
    side_puts_later =
        lane_puts_later reader_means reader_at new.reader new.head (source a.source) (source b.source) before after
        b.lane.in_flight b.lane.failed from_new

  -- nothing was taken or put
  pub none_taken : (sources : List S) (sinks : List K) → EachInPart source sink (devices sources sinks) (devices sources sinks)
  none_taken sources sinks = λ k few s t. told_nothing captures (source (get_or sources k s)) rx_text (sink (get_or sinks k t))

  -- new lanes did this, each with its own source and its own sink
  module _ (a b : Sides Lane S K) (new : AreNew a.lanes) (leads : LanesLead source sink a b) (sources : length a.sources ≡ length a.lanes)
      (sinks : length a.sinks ≡ length a.lanes) where
    source_here : (k : ℕ) → k < length a.lanes → S
    source_here k few = some_of a.sources k (omega (arith, few, sources))

    sink_here : (k : ℕ) → k < length a.lanes → K
    sink_here k few = some_of a.sinks k (omega (arith, few, sinks))

    sink_past : (k : ℕ) (t : K) → length a.lanes ≤ k → get_or b.sinks k t ≡ get_or a.sinks k t
    sink_past k t high = past_both a.sinks b.sinks k t leads.sinks (omega (arith, high, sinks))

    pub lanes_later : AreLater source sink (devices a.sources a.sinks) (devices b.sources b.sinks)
    lanes_later = record {
      sources = leads.sources;
      sinks = leads.sinks;
      reads = later_at source a.sources b.sources (length a.lanes) leads.sources sources (λ k s few.
          let l = some_of a.lanes k few in
          let t = sink_here k few in
          side_reads_later (side_at a l s t k) (side_at b l s t k) (new l k few) (leads.each l s t k few));
      puts = later_at sink a.sinks b.sinks (length a.lanes) leads.sinks sinks (λ k t few.
          let l = some_of a.lanes k few in
          let s = source_here k few in
          side_puts_later (side_at a l s t k) (side_at b l s t k) (new l k few) (leads.each l s t k few));
    }

    within : (k : ℕ) → k < length a.sources → k < length a.lanes
    within k few = subst (λ (n : ℕ). k < n) sources few

    -- memory lacked
    pub lanes_part : EachInPart source sink (devices a.sources a.sinks) (devices b.sources b.sinks)
    lanes_part = λ k few s t.
        let low = within k few in
        let l = some_of a.lanes k low in
        side_part (side_at a l s t k) (side_at b l s t k) (new l k low) (leads.each l s t k low)

    -- all are over, and none that takes answers waits for one or keeps a line back
    module _ (over : AreOver lane_over 0 b.lanes) (taken : HaveNone lane_due lane_rests b.lanes) (finished : AreFinished lane_finished lane_rests b.lanes)
      where
        still : (k : ℕ) → k < length a.lanes → k < length b.lanes
        still k few = omega (arith, few, leads.lanes)

        answer_is : (k : ℕ) (l : Lane) → k < length a.lanes → lane_answer (get_or b.lanes k l) ≡ answer_at (map lane_answer b.lanes) k
        answer_is k l few = sym (get_or-map lane_answer b.lanes k l (Err Read) (still k few))

        abbrev Steady : ℕ → K → Result Ended RunFault → Type 0
        Steady k t answer = answer ≢ Err Write → (sink (get_or b.sinks k t)).faults ≡ (sink (get_or a.sinks k t)).faults

        steady : (u : Bool) (k : ℕ) (t : K) → nat_lt k (length a.lanes) ≡ u → Steady k t (answer_at (map lane_answer b.lanes) k)
        steady true k t e =
            let few : k < length a.lanes = grind (arith, nat_tests, e) in
            let l = some_of a.lanes k few in
            let s = source_here k few in
            subst (λ (r : Result Ended RunFault). Steady k t r) (answer_is k l few)
            (side_steady (side_at a l s t k) (side_at b l s t k) (new l k few) (leads.each l s t k few) (over l k (omega arith) (still k few))
            (taken l k (still k few)))
        steady false k t e = λ other. ap (λ (x : K). (sink x).faults) (sink_past k t (grind (arith, nat_tests, e)))

        pub lanes_heard : EachHeard source sink (devices a.sources a.sinks) (devices b.sources b.sinks) (map lane_answer b.lanes)
        lanes_heard = record {
          as_many = length-map b.lanes lane_answer ∙ (leads.lanes ∙ sym sources);
          each = λ k few s t.
              let low = within k few in
              let l = some_of a.lanes k low in
              let x = side_at a l s t k in
              let y = side_at b l s t k in
              subst (λ (r : Result Ended RunFault). Heard (source x.source) (source y.source) (sink x.sink) (sink y.sink) r) (answer_is k l low)
              (side_heard x y (new l k low) (leads.each l s t k low) (over l k (omega arith) (still k low)) (taken l k (still k low))
              (finished l k (still k low)));
          writes = λ k t. steady (nat_lt k (length a.lanes)) k t refl;
        }

  -- new lanes, each with its own source and its own sink, were run; where memory sufficed their last lines were put
  module _ {a b : Sides Lane S K} (opened : AreOpen a.lanes a.sources a.sinks) where
    pub received_part : {A E : Type 0} {lack : E} → RunsLanes {A = A} (LaneLeads source sink) lane_due lane_rests lane_over lane_finished (Err lack) a b
        → ReceivesEach source sink (Err lack) (devices a.sources a.sinks) (devices b.sources b.sinks)
    received_part run = record {
      ends = tt;
      memory = lanes_part a b opened.new run.leads opened.as_many_sources opened.as_many_sinks;
      later = lanes_later a b opened.new run.leads opened.as_many_sources opened.as_many_sinks;
    }

    pub received : {A E F : Type 0} {x : A} {after : List K} {result : Result (Vec ManyEnd) F}
        → RunsLanes {E = E} (LaneLeads source sink) lane_due lane_rests lane_over lane_finished (Ok x) a b
        → FinishesEach sink b.sinks after (map lane_answer b.lanes) result
        → ReceivesEach source sink result (devices a.sources a.sinks) (devices b.sources after)
    received {after = after} {result = result} run finish =
        let answers : List (Result Ended RunFault) = map lane_answer b.lanes in
        let first : Devices S K = devices a.sources a.sinks in
        let mid : Devices S K = devices b.sources b.sinks in
        let last : Devices S K = devices b.sources after in
        let heard = lanes_heard a b opened.new run.leads opened.as_many_sources opened.as_many_sinks run.over run.none_due run.finished in
        let later = lanes_later a b opened.new run.leads opened.as_many_sources opened.as_many_sinks in
        record {
          ends = then_ok (λ (ends : Vec ManyEnd). EachFinishes sink b.sinks after answers ends.items)
              (λ (ends : Vec ManyEnd). EachEnds source sink first last ends.items) result
              (λ ends each. each_ends source sink first mid after answers heard later ends.items each finish.later
              (opened.as_many_sinks ∙ sym opened.as_many_sources)) finish.finishes;
          memory = on_err_then (EachMayFinish sink b.sinks after answers) (EachInPart source sink first last) result
              (λ m. each_in_part source sink first mid after answers heard later m) finish.memory;
          later = last_later source sink first mid after answers heard later finish.later;
        }

  -- memory lacked before anything was taken or put
  pub none_received : {E : Type 0} (lack : E) (sources : List S) (sinks : List K)
      → ReceivesEach source sink (Err lack) (devices sources sinks) (devices sources sinks)
  none_received lack sources sinks = record {
    ends = tt;
    memory = none_taken sources sinks;
    later = record {
      sources = refl;
      sinks = refl;
      reads = λ k s. later-refl (source (get_or sources k s));
      puts = λ k t. later-refl (sink (get_or sinks k t));
    };
  }
