-- The results that jobs give are those of the octets.
use Rattle.std.proofs.Common.{◌≡◌, ℕ, ◌≤◌, List, [], Result, MatchResult}
use Rattle.std.proofs.Common.{refl, ap, ◌∙◌, subst, arith}
use Rattle.std.specs.List.{flat_map}
use Rattle.std.proofs.Math.Path.{fun_ext}
use Rattle.ht_io.specs.Devices.{Device}
use Rattle.ht_capture.specs.declared.items.FrameHead.{FrameHead}
use Rattle.ht_runs.specs.declared.faults.RunFault.{RunFault}
use Rattle.ht_feed.specs.declared.ended.Ended.{Ended}
use Rattle.ht_results.specs.declared.frame_result.FrameResult.{FrameResult}
use Rattle.ht_results.specs.Heads.{Headed, headed_jobs}
use Rattle.ht_results.specs.Folding.{FrameSoFar, label_plan, result_of, results_from, with_job, with_octets}
use Rattle.ht_results.proofs.Folded.{folds}
use Rattle.ht_rx.specs.Heads.{pieces_of_octets}
use Rattle.ht_frames.specs.Frames.{results_by}
use Rattle.ht_frames.specs.Gathering.{booked_behind, booked_in}
use Rattle.ht_rx.specs.Frames.{booked_of}
use Rattle.ht_rx.specs.Outcomes.{StopsBy, TellsTo}
use Rattle.ht_rx.specs.Telling.{TellsCapture}
use Rattle.ht_feed.specs.Items.{Item}
use Rattle.ht_feed.specs.Inputs.{TellsInput}
use Rattle.ht_fields.specs.Meanings.{Meaning}
use Rattle.ht_capture.specs.Captures.{capture_of}
use Rattle.ht_capture_blocks.specs.Captures.{mapped}
use Rattle.ht_receive.specs.Receiving.{books}
use Rattle.ht_rx.proofs.Blocks.{comes_to}

-- the results that a receiver of labels makes of jobs
abbrev pub results_in : FrameSoFar → List Headed → List FrameResult
results_in = results_by label_plan with_octets result_of

-- are those of jobs one after another
pub results_as : (f : FrameSoFar) (jobs : List Headed) → results_in f jobs ≡ results_from f jobs
unfolding with_job
results_as f jobs = refl

-- where no frame is under way, the results are those of the octets
pub frames_told : {P : Type 0} (booked : FrameResult → List P) (f : FrameSoFar) (result : Result Ended RunFault)
    (source source' : Device ℕ) (book book' : Device P) → f.left ≤ 0
    → MatchResult result (TellsTo (pieces_of_octets (booked_in booked (results_in f))) source source' book book')
    (StopsBy (pieces_of_octets (booked_in booked (results_in f))) source source' book book')
    → MatchResult result (TellsTo (booked_of booked) source source' book book') (StopsBy (booked_of booked) source source' book book')
frames_told {P = P} booked f result source source' book book' none told =
    let zero : f.left ≡ 0 = omega (arith, none) in
    let same : pieces_of_octets (booked_in booked (results_in f)) ≡ booked_of booked = fun_ext (λ octets.
    ap (λ (rs : List FrameResult). flat_map booked rs) (results_as f (headed_jobs octets) ∙ folds octets f zero)) in
    subst (λ (g : List ℕ → List P). MatchResult result (TellsTo g source source' book book') (StopsBy g source source' book book')) same told

-- a receiver that begins with no frame under way books the results of the octets
pub received : {R P : Type 0} {means : R → List ℕ → Meaning (Item FrameHead)} {at : R → ℕ} {reader : R} {head : FrameHead}
    {source source' : Device ℕ} {book book' : Device P} {lent lent' : List ℕ} {result : Result Ended RunFault} (booked : FrameResult → List P) (f : FrameSoFar)
    → TellsInput means at reader head source source' (books booked (results_in f) book) (books booked (results_in f) book') lent lent' result
    → ((octets : List ℕ) → means reader octets ≡ mapped (capture_of octets)) → at reader ≡ 0 → f.left ≡ 0
    → TellsCapture (booked_of booked) source source' book book' result
received {means = means} {at = at} {reader = reader} {head = head} {source = source} {source' = source'} {book = book} {book' = book'} {result = result}
    booked f told same zero none =
    record {
      tells = frames_told booked f result source source' book book' (omega (arith, none))
          (comes_to means at reader head source source' (books booked (results_in f) book) (books booked (results_in f) book') result same zero told.tells);
      writes = told.writes;
      reads_later = told.reads_later;
      puts_later = told.puts_later;
    }

-- where no frame waits and none is under way, the results are those of the octets
pub gathered_told : {P : Type 0} (booked : FrameResult → List P) (whole : List FrameSoFar) (f : FrameSoFar) (result : Result Ended RunFault)
    (source source' : Device ℕ) (book book' : Device P) → whole ≡ [] → f.left ≤ 0
    → MatchResult result (TellsTo (pieces_of_octets (booked_behind result_of booked whole (results_in f))) source source' book book')
    (StopsBy (pieces_of_octets (booked_behind result_of booked whole (results_in f))) source source' book book')
    → MatchResult result (TellsTo (booked_of booked) source source' book book') (StopsBy (booked_of booked) source source' book book')
gathered_told booked whole f result source source' book book' none idle told =
    frames_told booked f result source source' book book' idle
    (subst (λ (fs : List FrameSoFar). MatchResult result
    (TellsTo (pieces_of_octets (booked_behind result_of booked fs (results_in f))) source source' book book')
    (StopsBy (pieces_of_octets (booked_behind result_of booked fs (results_in f))) source source' book book')) none told)
