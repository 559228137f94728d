-- What `lrx` writes for a list of octets: a line for each frame that is whole, and a last line.
use Rattle.std.specs.Prelude.{ℕ, List, map}
use Rattle.ht_fields.specs.Meanings.{Meaning, meaning}
use Rattle.ht_text.specs.Lines.{end_text}
use Rattle.ht_runs.specs.Formats.{lines_by, text_by}
use Rattle.ht_feed.specs.Items.{Item, frames_of}
use Rattle.ht_legacy_files.specs.CaptureFormats.{captures}
use Rattle.ht_legacy_files.specs.CaptureItems.{LegacyItem}
use Rattle.ht_legacy_blocks.specs.declared.head.LegacyFrameHead.{LegacyFrameHead}
use Rattle.ht_legacy_blocks.specs.Frames.{at_first, given_from, whole_frames}
use Rattle.ht_results.specs.declared.frame_result.FrameResult.{FrameResult}
use Rattle.ht_results.specs.Texts.{result_lines}
use Rattle.ht_legacy_rx.specs.Results.{legacy_frame_result}

-- what octets mean in the format of clause 18 captures
abbrev pub legacy_meaning : List ℕ → Meaning LegacyItem
legacy_meaning octets = meaning captures captures.start 0 octets

-- the heads and the jobs of a capture
abbrev pub legacy_items : List LegacyItem → List (Item LegacyFrameHead)
legacy_items items = given_from at_first items

-- the results of the frames that are whole among items
abbrev pub results_in : List LegacyItem → List FrameResult
results_in items = map legacy_frame_result (whole_frames (legacy_items items))

-- and in a list of octets
unfoldable pub legacy_results_of : List ℕ → List FrameResult
legacy_results_of octets = results_in (legacy_meaning octets).items

-- the lines of items, and the last line of a whole capture
abbrev pub lines_in : List LegacyItem → List ℕ
lines_in items = result_lines (results_in items)

abbrev pub end_of_legacy : List LegacyItem → List ℕ
end_of_legacy items = end_text (frames_of (legacy_items items))

-- the lines of the frames that are whole in a list of octets
unfoldable pub legacy_lines_of : List ℕ → List ℕ
legacy_lines_of octets = lines_by captures lines_in octets

-- the reference text of a list of octets: these lines, and the number of frames or the first fault
unfoldable pub legacy_text : List ℕ → List ℕ
legacy_text octets = text_by captures lines_in end_of_legacy octets
