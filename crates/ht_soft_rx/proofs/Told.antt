-- The lines of frames are told of a capture's jobs.
use Rattle.std.proofs.Common.{◌≡◌, ℕ, ℤ, List, [], ◌∷◌, ◌++◌, Option, None, Some, map, Result, Ok, Err, refl, ap, ◌∙◌, arith}
use Rattle.std.specs.List.{flat_map}
use Rattle.ht_io.specs.Devices.{Device}
use Rattle.ht_io.specs.declared.faults.FormatFault.{FormatFault}
use Rattle.ht_fields.specs.Meanings.{Meaning}
use Rattle.ht_capture.specs.declared.items.FrameHead.{FrameHead}
use Rattle.ht_capture.specs.declared.items.Item.{Item as CaptureItem}
use Rattle.ht_capture.specs.declared.items.Item.TheVariants.{Frame, Job, Done}
use Rattle.ht_capture.specs.Captures.{capture_of}
use Rattle.ht_capture.specs.Fields.{captures}
use Rattle.ht_capture_blocks.specs.Captures.{items_of, mapped}
use Rattle.ht_capture_laws.specs.Items.{whole_frames}
use Rattle.ht_receive.specs.Endings.{EndsLines, IsTold, MeansFrames, end_as}
use Rattle.ht_feed.specs.declared.ended.Ended.{Ended}
use Rattle.ht_feed.specs.Inputs.{TellsInput}
use Rattle.ht_feed.specs.Items.{Item, frames_of as block_frames, headed as block_headed, headed_of}
use Rattle.ht_frames.specs.Frames.{results_by}
use Rattle.ht_frames.specs.Gathering.{booked_in}
use Rattle.ht_receive.specs.Ends.{StreamsText}
use Rattle.ht_receive.specs.Receiving.{books}
use Rattle.ht_receive.proofs.Streaming.{streams}
use Rattle.ht_results.specs.Captured.{with_octets, with_job_by}
use Rattle.ht_results.specs.Heads.{Headed, headed}
use Rattle.ht_results.specs.Plans.{SoFar, given_from}
use Rattle.ht_results.specs.Texts.{HasFrames, frames_of, last_line, last_of}
use Rattle.ht_results.proofs.Folded.{headed_is}
use Rattle.ht_runs.specs.declared.faults.RunFault.{RunFault}
use Rattle.ht_runs.specs.Streamed.{Streamed}
use Rattle.ht_runs.specs.Formats.{IsLined, filter, last_text}
use Rattle.ht_text.specs.Lines.{end_text}
use Rattle.ht_soft_rx.specs.declared.soft_result.SoftResult.{SoftResult}
use Rattle.ht_soft_rx.specs.Jobs.{weight_fold, weight_plan, weights_come_to}
use Rattle.ht_soft_rx.specs.Results.{soft_result, soft_results_of}
use Rattle.ht_soft_rx.specs.Texts.{soft_line, soft_lines_of, soft_rx_text}
use Rattle.ht_soft_rx.proofs.Placed.{jobs_fold}

-- the frames and jobs of blocks are those of the items
frames_same : (items : List CaptureItem) → block_frames (items_of items) ≡ frames_of items
frames_same [] = refl
frames_same (Frame head ∷ items) = let e = frames_same items in omega (arith, e)
frames_same (Job job ∷ items) = frames_same items
frames_same (Done ∷ items) = frames_same items

headed_same : (head : FrameHead) (items : List CaptureItem) → block_headed head (items_of items) ≡ headed head items
headed_same head [] = refl
headed_same head (Frame next ∷ items) = headed_same next items
headed_same head (Job job ∷ items) = ap (λ (hs : List Headed). headed_of head job ∷ hs) (headed_same head items)
headed_same head (Done ∷ items) = headed_same head items

last_is : (fault : Option FormatFault) (frames : ℕ) → last_text fault (end_text frames) ≡ last_of fault frames
last_is None frames = refl
last_is (Some fault) frames = refl

text_is : (octets : List ℕ)
    → soft_lines_of octets ++ last_text (capture_of octets).fault (end_as captures items_of (capture_of octets).items) ≡ soft_rx_text octets
unfolding soft_rx_text last_line
text_is octets =
    let fault : Option FormatFault = (capture_of octets).fault in
    ap (λ (n : ℕ). soft_lines_of octets ++ last_text fault (end_text n)) (frames_same (capture_of octets).items)
    ∙ ap (λ (xs : List ℕ). soft_lines_of octets ++ xs) (last_is fault (frames_of (capture_of octets).items))

same_lines : (a b : List ℕ) → capture_of a ≡ capture_of b → soft_lines_of a ≡ soft_lines_of b
unfolding soft_lines_of soft_results_of
same_lines a b is = ap (λ (m : Meaning CaptureItem). flat_map soft_line (map soft_result (whole_frames m.items))) is

-- the text of a capture ends with the line of its fault, or with the number of its frames
pub lines_lined : IsLined captures soft_rx_text soft_lines_of (end_as captures items_of)
lines_lined = record { text_is = text_is; same = same_lines }

-- the results of a run
abbrev results : SoFar FrameHead ℤ → List Headed → List SoftResult
results f jobs = results_by weight_plan with_octets weights_come_to f jobs

by_fold : (f : SoFar FrameHead ℤ) (jobs : List Headed) → results f jobs ≡ given_from weight_fold f jobs
unfolding with_job_by
by_fold f jobs = refl

lines_are : (head : FrameHead) (f : SoFar FrameHead ℤ) (octets : List ℕ) → f.left ≡ 0
    → flat_map soft_line (results f (block_headed head (items_of (capture_of octets).items))) ≡ soft_lines_of octets
unfolding soft_lines_of
lines_are head f octets none =
    ap (λ (rs : List SoftResult). flat_map soft_line rs)
    (ap (results f) (headed_same head (capture_of octets).items ∙ headed_is octets head)
    ∙ (by_fold f _ ∙ jobs_fold octets f none))

soft_told : (head : FrameHead) (f : SoFar FrameHead ℤ) → f.left ≡ 0
    → IsTold captures items_of head (booked_in soft_line (results f)) soft_rx_text soft_lines_of
soft_told head f none = record {
  lined = lines_lined;
  are = λ octets. lines_are head f octets none;
}

-- the number of frames is that of the capture
framed : (source source' sink sink' : Device ℕ) (result : Result ℕ RunFault)
    → Streamed (filter captures soft_rx_text soft_lines_of) source source' sink sink' (MeansFrames captures items_of) result
    → Streamed (filter captures soft_rx_text soft_lines_of) source source' sink sink' HasFrames result
framed source source' sink sink' (Ok frames) run = (run.0, run.1 ∙ frames_same (capture_of run.0.taken).items)
framed source source' sink sink' (Err fault) run = run

-- the lines of frames were put, from where no frame was under way, and then the end line
pub finished : {R : Type 0} {means : R → List ℕ → Meaning (Item FrameHead)} {at : R → ℕ} {reader : R} {head : FrameHead} {f : SoFar FrameHead ℤ}
    {source source' sink start mid sink' : Device ℕ} {lent lent' : List ℕ} {ended : Result Ended RunFault} {result : Result ℕ RunFault}
    → TellsInput means at reader head source source' (books soft_line (results f) start) (books soft_line (results f) mid) lent lent' ended
    → start ≡ sink → ((octets : List ℕ) → means reader octets ≡ mapped (capture_of octets)) → at reader ≡ 0 → f.left ≡ 0
    → EndsLines ended mid sink' result
    → StreamsText (filter captures soft_rx_text soft_lines_of) HasFrames source source' sink sink' result
finished {means = means} {at = at} {reader = reader} {head = head} {f = f} {source = source} {source' = source'} {sink = sink} {start = start} {mid = mid}
    {sink' = sink'} {lent = lent} {lent' = lent'} {ended = ended} {result = result} tells from same zero idle last =
    let all = streams captures items_of means at reader head soft_line (results f) soft_rx_text soft_lines_of source source' sink start mid sink'
    lent lent' ended result (soft_told head f idle) same zero from tells last in
    record {
      streams = framed source source' sink sink' result all.streams;
      writes = all.writes;
      reads_later = all.reads_later;
      puts_later = all.puts_later;
    }
