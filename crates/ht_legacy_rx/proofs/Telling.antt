-- The text of a capture from what a receiver puts, and the end line.
use Rattle.std.proofs.Common.{◌≡◌, ℕ, List, Result, refl, ap, ◌∙◌}
use Rattle.ht_io.specs.Devices.{Device}
use Rattle.ht_fields.specs.Meanings.{Meaning}
use Rattle.ht_runs.specs.Formats.{IsLined, filter}
use Rattle.ht_runs.specs.declared.faults.RunFault.{RunFault}
use Rattle.ht_runs.proofs.Streaming.{lined}
use Rattle.ht_feed.specs.declared.ended.Ended.{Ended}
use Rattle.ht_feed.specs.Inputs.{TellsInput}
use Rattle.ht_feed.specs.Items.{Item}
use Rattle.ht_receive.specs.Endings.{EndsLines, IsTold, MeansFrames, end_as, seen_as}
use Rattle.ht_frames.specs.Gathering.{booked_in}
use Rattle.ht_results.specs.Texts.{result_line, result_lines}
use Rattle.ht_legacy_files.specs.CaptureFormats.{captures}
use Rattle.ht_legacy_blocks.specs.declared.head.LegacyFrameHead.{LegacyFrameHead}
use Rattle.ht_receive.specs.Ends.{StreamsText}
use Rattle.ht_receive.specs.Receiving.{books}
use Rattle.ht_receive.proofs.Streaming.{streams}
use Rattle.ht_legacy_rx.specs.Folding.{legacy_results_from}
use Rattle.ht_legacy_rx.specs.Results.{LegacySoFar}
use Rattle.ht_legacy_rx.specs.Texts.{end_of_legacy, legacy_items, legacy_lines_of, legacy_meaning, legacy_results_of, legacy_text, lines_in}
use Rattle.ht_legacy_rx.proofs.Folded.{folds}

-- the text of a capture ends with the line of its fault, or with the number of its frames
pub lines_lined : IsLined captures legacy_text legacy_lines_of (end_as captures legacy_items)
unfolding legacy_text legacy_lines_of
lines_lined = lined captures lines_in end_of_legacy

lines_are : (octets : List ℕ) → result_lines (legacy_results_of octets) ≡ legacy_lines_of octets
unfolding legacy_results_of legacy_lines_of
lines_are octets = refl

told : (head : LegacyFrameHead) (f : LegacySoFar) → f.left ≡ 0
    → IsTold captures legacy_items head (booked_in result_line (legacy_results_from f)) legacy_text legacy_lines_of
told head f none = record {
  lined = lines_lined;
  are = λ octets. ap result_lines (folds octets head f none) ∙ lines_are octets;
}

-- what a receiver puts that begins with no frame under way, and the end line behind it
pub streamed : {R : Type 0} {means : R → List ℕ → Meaning (Item LegacyFrameHead)} {at : R → ℕ} {reader : R} {head : LegacyFrameHead} {f : LegacySoFar}
    {source source' sink start mid sink' : Device ℕ} {lent lent' : List ℕ} {ended : Result Ended RunFault} {result : Result ℕ RunFault}
    → TellsInput means at reader head source source' (books result_line (legacy_results_from f) start)
    (books result_line (legacy_results_from f) mid) lent lent' ended
    → start ≡ sink → ((octets : List ℕ) → means reader octets ≡ seen_as legacy_items (legacy_meaning octets)) → at reader ≡ 0 → f.left ≡ 0
    → EndsLines ended mid sink' result
    → StreamsText (filter captures legacy_text legacy_lines_of) (MeansFrames captures legacy_items) source source' sink sink' result
streamed {means = means} {at = at} {reader = reader} {head = head} {f = f} {source = source} {source' = source'} {sink = sink} {start = start} {mid = mid}
    {sink' = sink'} {lent = lent} {lent' = lent'} {ended = ended} {result = result} tells from same zero fresh last =
    streams captures legacy_items means at reader head result_line (legacy_results_from f) legacy_text legacy_lines_of source source' sink start mid sink'
    lent lent' ended result (told head f fresh) same zero from tells last
