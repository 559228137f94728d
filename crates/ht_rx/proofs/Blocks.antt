-- What a run of the feed over blocks comes to, said of the octets of a capture.
use Rattle.std.specs.Prelude.{◌≡◌, ℕ, List, [], ◌∷◌, ◌++◌, length, map, Option, Result, Ok, Err, IsErr, IsErrAnd, MatchResult}
use Rattle.std.proofs.Common.{refl, ap, ◌∙◌, sym, subst, arith}
use Rattle.ht_io.specs.Devices.{Device}
use Rattle.ht_io.proofs.Calls.{later-refl}
use Rattle.ht_io.specs.declared.faults.FormatFault.{FormatFault}
use Rattle.ht_fields.specs.Meanings.{Meaning}
use Rattle.ht_fields.specs.Readers.{ReaderView}
use Rattle.ht_metric.specs.Jobs.{JobView}
use Rattle.ht_capture.specs.declared.items.FrameHead.{FrameHead}
use Rattle.ht_capture.specs.declared.items.Item.{Item as CaptureItem}
use Rattle.ht_capture.specs.declared.items.Item.TheVariants.{Frame, Job, Done}
use Rattle.ht_capture.specs.Captures.{capture_of}
use Rattle.ht_capture.specs.Fields.{captures}
use Rattle.ht_runs.proofs.Outcomes.{told_nothing}
use Rattle.ht_feed.proofs.Finishing.{stops_with}
use Rattle.ht_capture_laws.specs.Items.{FrameJobs, frames_in, items_in}
use Rattle.ht_capture_laws.proofs.Parts.{frames_of as parts_of}
use Rattle.ht_runs.specs.declared.faults.RunFault.{RunFault}
use Rattle.ht_runs.specs.declared.faults.RunFault.TheVariants.{Format, Read, Write, NoMemory}
use Rattle.ht_feed.specs.declared.ended.Ended.{Ended}
use Rattle.ht_feed.specs.Consumers.{Telling}
use Rattle.ht_capture_blocks.specs.Captures.{items_of, mapped}
use Rattle.ht_feed.specs.Items.{Item, Begins, One}
use Rattle.ht_feed.specs.Items.{headed as block_headed, headed_of, frames_of as block_frames, jobs_of as block_jobs}
use Rattle.ht_feed.specs.Outcomes.{Comes, StopsAs as BlockStops, EndsWhole as BlockWhole}
use Rattle.ht_receive.proofs.Runs.{broken, from_front, front, in_part, refused, whole}
use Rattle.ht_results.specs.Heads.{Headed, headed, headed_jobs}
use Rattle.ht_results.specs.Texts.{frames_of}
use Rattle.ht_results.proofs.Folded.{headed_is}
use Rattle.ht_rx.specs.Heads.{pieces_of_octets}
use Rattle.ht_rx.specs.Outcomes.{HasCounts, StopsBy, TellsTo}
use Rattle.ht_rx.specs.Telling.{TellsCapture}
use Rattle.ht_results.specs.JobTexts.{jobs_of}

-- the items of a capture out of its heads and jobs
abbrev items_again : List (Item FrameHead) → List CaptureItem
items_again [] = []
items_again (Begins head ∷ items) = Frame head ∷ items_again items
items_again (One job ∷ items) = Job job ∷ items_again items

again-jobs : (jobs : List JobView) (items : List CaptureItem)
    → items_again (items_of (map Job jobs ++ items)) ≡ map Job jobs ++ items_again (items_of items)
again-jobs [] items = refl
again-jobs (job ∷ jobs) items = ap (λ (is : List CaptureItem). Job job ∷ is) (again-jobs jobs items)

again-frames : (frames : List FrameJobs) → items_again (items_of (items_in frames)) ≡ items_in frames
again-frames [] = refl
again-frames (f ∷ fs) =
    ap (λ (is : List CaptureItem). Frame f.head ∷ is)
    (again-jobs f.jobs (items_in fs) ∙ ap (λ (is : List CaptureItem). map Job f.jobs ++ is) (again-frames fs))

-- none of the items of octets is an end
again : (octets : List ℕ) → items_again (items_of (capture_of octets).items) ≡ (capture_of octets).items
again octets =
    let all = (parts_of octets).all in
    ap (λ (is : List CaptureItem). items_again (items_of is)) all ∙ (again-frames (frames_in (capture_of octets).items) ∙ sym all)

same_meaning : (xs ys : List ℕ) → mapped (capture_of xs) ≡ mapped (capture_of ys) → capture_of xs ≡ capture_of ys
same_meaning xs ys is =
    let items : (capture_of xs).items ≡ (capture_of ys).items =
    sym (again xs) ∙ (ap (λ (m : Meaning (Item FrameHead)). items_again m.items) is ∙ again ys) in
    let fault : (capture_of xs).fault ≡ (capture_of ys).fault = ap (λ (m : Meaning (Item FrameHead)). m.fault) is in
    ap (λ (is : List CaptureItem). let m : Meaning CaptureItem = record { items = is; fault = (capture_of xs).fault } in m) items
    ∙ ap (λ (f : Option FormatFault). let m : Meaning CaptureItem = record { items = (capture_of ys).items; fault = f } in m) fault

-- heads and jobs, frames and jobs are those of the items
headed-items : (head : FrameHead) (items : List CaptureItem) → block_headed head (items_of items) ≡ headed head items
headed-items head [] = refl
headed-items head (Frame next ∷ items) = headed-items next items
headed-items head (Job job ∷ items) = ap (λ (hs : List Headed). headed_of head job ∷ hs) (headed-items head items)
headed-items head (Done ∷ items) = headed-items head items

frames-items : (items : List CaptureItem) → block_frames (items_of items) ≡ frames_of items
frames-items [] = refl
frames-items (Frame head ∷ items) = let e = frames-items items in omega (arith, e)
frames-items (Job job ∷ items) = frames-items items
frames-items (Done ∷ items) = frames-items items

jobs-items : (items : List CaptureItem) → block_jobs (items_of items) ≡ jobs_of items
jobs-items [] = refl
jobs-items (Frame head ∷ items) = jobs-items items
jobs-items (Job job ∷ items) = ap (λ (js : List JobView). job ∷ js) (jobs-items items)
jobs-items (Done ∷ items) = jobs-items items

headed-octets : (head : FrameHead) (octets : List ℕ) → block_headed head (items_of (capture_of octets).items) ≡ headed_jobs octets
headed-octets head octets = headed-items head (capture_of octets).items ∙ headed_is octets head

-- these pieces are put of octets; the source and the device, before and after
module _ {P : Type 0} (pieces : List ℕ → List P) (source source' : Device ℕ) (device device' : Device P) where
  abbrev start : ReaderView (Item FrameHead)
  start = front captures items_of source

  counted : (frames jobs : ℕ) (octets : List ℕ) → frames ≡ block_frames (items_of (capture_of octets).items)
      → jobs ≡ length (block_jobs (items_of (capture_of octets).items)) → HasCounts frames jobs octets
  counted frames jobs octets begun all =
      let items = (capture_of octets).items in
      record { frames_are = begun ∙ frames-items items; jobs_are = all ∙ ap (λ (js : List JobView). length js) (jobs-items items) }

  told : (result : Result Ended RunFault)
      → MatchResult result (BlockWhole start pieces source' device device') (BlockStops start pieces source' device device')
      → MatchResult result (TellsTo pieces source source' device device') (StopsBy pieces source source' device device')
  told (Ok ended) t =
      whole captures items_of pieces source source' device device' (HasCounts ended.frames ended.jobs) ended (counted ended.frames ended.jobs) t
  told (Err (Format fault)) t = refused captures items_of pieces source source' device device' same_meaning fault t
  told (Err Read) t = (broken captures items_of pieces source source' device device' t.0, t.1)
  told (Err Write) t = (in_part captures items_of pieces source source' device device' t.0, t.1)
  told (Err NoMemory) t = in_part captures items_of pieces source source' device device' t

-- a run from a reader in front of a capture
pub comes_to : {R P : Type 0} (means : R → List ℕ → Meaning (Item FrameHead)) (at : R → ℕ) (reader : R) (head : FrameHead)
    (source source' : Device ℕ) (a b : Telling FrameHead P) (result : Result Ended RunFault)
    → ((octets : List ℕ) → means reader octets ≡ mapped (capture_of octets)) → at reader ≡ 0
    → Comes means at reader head source source' a b result
    → MatchResult result (TellsTo (pieces_of_octets a.pieces) source source' a.device b.device)
    (StopsBy (pieces_of_octets a.pieces) source source' a.device b.device)
comes_to means at reader head source source' a b result same zero came =
    told (pieces_of_octets a.pieces) source source' a.device b.device result
    (from_front captures items_of means at reader head (pieces_of_octets a.pieces) source source' a b result same zero
    (λ octets. ap a.pieces (headed-octets head octets)) came)

-- without memory for a reader nothing is taken, and nothing put
pub lacks : {P : Type 0} {pieces : List ℕ → List P} {source : Device ℕ} {device : Device P} {result : Result Ended RunFault}
    → IsErr result → IsErrAnd result (λ r. r ≡ NoMemory) → TellsCapture pieces source source device device result
lacks {pieces = pieces} {source = source} {device = device} {result = result} failed memory =
    record {
      tells = stops_with result (TellsTo pieces source source device device) (StopsBy pieces source source device device) (λ r. r ≡ NoMemory) failed memory
          (λ r is. subst (λ (x : RunFault). StopsBy pieces source source device device x) (sym is) (told_nothing captures source pieces device));
      writes = λ well. refl;
      reads_later = later-refl source;
      puts_later = later-refl device;
    }
