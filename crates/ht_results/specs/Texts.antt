-- What `rx` writes for a list of octets: a line for each frame that is whole, and a last line.
use Rattle.std.specs.Prelude.{◌≡◌, ℕ, ◌+◌, List, [], ◌∷◌, ◌++◌, Option, None, Some}
use Rattle.std.specs.List.{flat_map}
use Rattle.ht_io.specs.declared.faults.FormatFault.{FormatFault}
use Rattle.ht_io.specs.Kinds.{name_of}
use Rattle.ht_capture.specs.declared.items.Item.{Item}
use Rattle.ht_capture.specs.declared.items.Item.TheVariants.{Frame, Job, Done}
use Rattle.ht_capture.specs.Captures.{capture_of}
use Rattle.ht_inverse.specs.declared.outcome.Outcome.{Outcome}
use Rattle.ht_inverse.specs.declared.outcome.Outcome.TheVariants.{Octets, SeedZero}
use Rattle.ht_text.specs.Lines.{end_text, frame_text, refused_text}
use Rattle.ht_results.specs.declared.frame_result.FrameResult.{FrameResult}
use Rattle.ht_results.specs.Results.{results_of}

-- the octets of an outcome, if it has any
abbrev pub octets_in : Outcome → Option (List ℕ)
octets_in (Octets octets) = Some octets
octets_in SeedZero = None

-- the line of a frame
unfoldable pub result_line : FrameResult → List ℕ
result_line r = frame_text r.frame r.data_sum r.pilot_sum r.code (octets_in r.outcome)

-- the lines of frames, one after another
abbrev pub result_lines : List FrameResult → List ℕ
result_lines results = flat_map result_line results

-- the lines of the frames that are whole in a list of octets
unfoldable pub frame_lines_of : List ℕ → List ℕ
frame_lines_of octets = result_lines (results_of octets)

-- how many frames are among the items
abbrev pub frames_of : List Item → ℕ
frames_of [] = 0
frames_of (Frame head ∷ items) = 1 + frames_of items
frames_of (Job job ∷ items) = frames_of items
frames_of (Done ∷ items) = frames_of items

-- a capture has this number of frames
abbrev pub HasFrames : ℕ → List ℕ → Type 0
HasFrames frames octets = frames ≡ frames_of (capture_of octets).items

-- the last line: the number of frames, or the first fault
abbrev pub last_of : Option FormatFault → ℕ → List ℕ
last_of None frames = end_text frames
last_of (Some fault) frames = refused_text (name_of fault.kind) fault.offset

-- the last line of the text of a list of octets
unfoldable pub last_line : List ℕ → List ℕ
last_line octets = last_of (capture_of octets).fault (frames_of (capture_of octets).items)

-- the reference text of a list of octets
unfoldable pub rx_text : List ℕ → List ℕ
rx_text octets = frame_lines_of octets ++ last_line octets
