-- The texts of a capture: the lines of its jobs or of its frames, and the last line.
use Rattle.std.proofs.Common.{◌≡◌, ℕ, List, ◌++◌, Option, None, Some, map, Result, Ok, Err, MatchResult, refl, ap, ◌∙◌, subst}
use Rattle.std.specs.List.{flat_map}
use Rattle.ht_io.specs.Devices.{Device}
use Rattle.ht_io.specs.declared.faults.FormatFault.{FormatFault}
use Rattle.ht_fields.specs.Meanings.{Meaning}
use Rattle.ht_capture.specs.declared.items.Item.{Item}
use Rattle.ht_capture.specs.Captures.{capture_of}
use Rattle.ht_capture.specs.Fields.{captures}
use Rattle.ht_capture_laws.specs.Items.{whole_frames}
use Rattle.ht_results.specs.JobTexts.{detect_text, job_lines, jobs_of, lines_of}
use Rattle.ht_results.specs.Results.{frame_result, results_of}
use Rattle.ht_results.specs.Texts.{HasFrames, frame_lines_of, frames_of, last_line, last_of, result_line, rx_text}
use Rattle.ht_runs.specs.Formats.{IsLined, filter, last_text}
use Rattle.ht_runs.specs.declared.faults.RunFault.{RunFault}
use Rattle.ht_runs.specs.declared.faults.RunFault.TheVariants.{Format, Read, Write, NoMemory}
use Rattle.ht_runs.proofs.Streaming.{stopped}
use Rattle.ht_feed.specs.declared.ended.Ended.{Ended}
use Rattle.ht_text.specs.Lines.{end_text}
use Rattle.ht_receive.specs.Endings.{EndsLines}
use Rattle.ht_receive.proofs.EndLines.{PutsLines, with_end}
use Rattle.ht_receive.specs.Ends.{StreamsText}
use Rattle.ht_receive.proofs.Streaming.{with_end_line}
use Rattle.ht_rx.specs.Frames.{booked_of}
use Rattle.ht_rx.specs.Outcomes.{StopsBy, TellsTo}
use Rattle.ht_rx.specs.Telling.{TellsCapture}
use Rattle.ht_rx.proofs.Booking.{lines_booked}

-- the line that ends the lines of a capture
abbrev pub end_of_capture : List Item → List ℕ
end_of_capture items = end_text (frames_of items)

last_is : (fault : Option FormatFault) (frames : ℕ) → last_text fault (end_text frames) ≡ last_of fault frames
last_is None frames = refl
last_is (Some fault) frames = refl

-- lines, and the last line behind them
with_last : (lines : List ℕ → List ℕ) (octets : List ℕ)
    → lines octets ++ last_text (capture_of octets).fault (end_of_capture (capture_of octets).items) ≡ lines octets ++ last_line octets
unfolding last_line
with_last lines octets = ap (λ (xs : List ℕ). lines octets ++ xs) (last_is (capture_of octets).fault (frames_of (capture_of octets).items))

detect_is : (octets : List ℕ) → lines_of octets ++ last_line octets ≡ detect_text octets
unfolding detect_text
detect_is octets = refl

same_lines : (a b : List ℕ) → capture_of a ≡ capture_of b → lines_of a ≡ lines_of b
unfolding lines_of
same_lines a b is = ap (λ (m : Meaning Item). job_lines (jobs_of m.items)) is

pub detects : IsLined captures detect_text lines_of end_of_capture
detects = record { text_is = λ octets. with_last lines_of octets ∙ detect_is octets; same = same_lines }

rx_is : (octets : List ℕ) → frame_lines_of octets ++ last_line octets ≡ rx_text octets
unfolding rx_text
rx_is octets = refl

same_frames : (a b : List ℕ) → capture_of a ≡ capture_of b → frame_lines_of a ≡ frame_lines_of b
unfolding frame_lines_of results_of
same_frames a b is = ap (λ (m : Meaning Item). flat_map result_line (map frame_result (whole_frames m.items))) is

pub receives : IsLined captures rx_text frame_lines_of end_of_capture
receives = record { text_is = λ octets. with_last frame_lines_of octets ∙ rx_is octets; same = same_frames }

-- the text of captures and its lines; the source before and after, and the sink before
module _ (text lines : List ℕ → List ℕ) (s : IsLined captures text lines end_of_capture) (source source' sink : Device ℕ) where
  -- what the reading of a capture came to is what its lines came to
  lines_put : (run : Result Ended RunFault) (mid : Device ℕ) → MatchResult run (TellsTo lines source source' sink mid) (StopsBy lines source source' sink mid)
      → PutsLines captures text lines source source' sink HasFrames run mid
  lines_put (Ok ended) mid told =
      record { taken = told.taken; octets = told.octets; whole = told.whole; says = told.says.frames_are; put = told.put }
  lines_put (Err (Format fault)) mid told = stopped captures text lines end_of_capture s source source' sink mid fault told
  lines_put (Err Read) mid told = told
  lines_put (Err Write) mid told = told
  lines_put (Err NoMemory) mid told = told

  -- the lines of a capture, and the end line behind them
  ends : (run : Result Ended RunFault) (mid sink' : Device ℕ) (result : Result ℕ RunFault) → TellsCapture lines source source' sink mid run
      → EndsLines run mid sink' result → StreamsText (filter captures text lines) HasFrames source source' sink sink' result
  ends run mid sink' result told last =
      with_end_line (filter captures text lines) HasFrames source source' sink mid sink' run result
      (with_end captures text lines source source' sink HasFrames end_of_capture s (λ frames octets is. ap end_text is) run mid sink' result
      (lines_put run mid told.tells) told.puts_later last.puts)
      told.writes told.reads_later told.puts_later last

-- so of the lines of jobs
pub detected : {source source' sink mid sink' : Device ℕ} {run : Result Ended RunFault} {result : Result ℕ RunFault}
    → TellsCapture lines_of source source' sink mid run → EndsLines run mid sink' result
    → StreamsText (filter captures detect_text lines_of) HasFrames source source' sink sink' result
detected {source = source} {source' = source'} {sink = sink} {mid = mid} {sink' = sink'} {run = run} {result = result} told last =
    ends detect_text lines_of detects source source' sink run mid sink' result told last

-- and of the lines of frames, from a book of them
pub received : {source source' sink start mid sink' : Device ℕ} {run : Result Ended RunFault} {result : Result ℕ RunFault}
    → TellsCapture (booked_of result_line) source source' start mid run → start ≡ sink → EndsLines run mid sink' result
    → StreamsText (filter captures rx_text frame_lines_of) HasFrames source source' sink sink' result
received {source = source} {source' = source'} {sink = sink} {mid = mid} {sink' = sink'} {run = run} {result = result} told from last =
    ends rx_text frame_lines_of receives source source' sink run mid sink' result
    (subst (λ (f : List ℕ → List ℕ). TellsCapture f source source' sink mid run) lines_booked
    (subst (λ (d : Device ℕ). TellsCapture (booked_of result_line) source source' d mid run) from told)) last
