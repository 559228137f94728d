-- Captures as what is written of frames.
use Rattle.std.specs.Prelude.{◌≡◌, ℕ, ◌+◌, ◌*◌, List, [], ◌∷◌, length}
use Rattle.ht_rate.specs.Rates.{symbols_of}
use Rattle.ht_capture.specs.declared.frames.CaptureFrame.{CaptureFrame}
use Rattle.ht_capture.specs.declared.items.Item.{Item}
use Rattle.ht_capture.specs.declared.items.Item.TheVariants.{Frame}
use Rattle.ht_capture.specs.Contents.{AreTyped, IsVersion, frame_jobs, head_of, items_of, presents_of}
use Rattle.ht_capture.specs.Files.{AreCaptureFrames, capture_file_of}

-- the octets are the file of frames that can be written in the version, and the items are their heads and jobs
pub record IsFileOf (version : ℕ) (frames : List CaptureFrame) (octets : List ℕ) (items : List Item) : Type 0 where
  pub file : octets ≡ capture_file_of version frames
  pub shown : items ≡ items_of frames
  pub fit : AreCaptureFrames frames
  pub typed : AreTyped frames
  pub allowed : IsVersion version frames

-- the items of a frame: its head, and the jobs of its symbols
abbrev pub items_for : ℕ → ℕ → CaptureFrame → List Item
items_for frame number f = Frame (head_of frame f) ∷ frame_jobs (symbols_of f.rate f.length) (head_of frame f) 0 number (presents_of f) f.samples

-- the items of each frame, where the first one and its first job have these numbers
abbrev pub items_each : ℕ → ℕ → List CaptureFrame → List (List Item)
items_each frame number [] = []
items_each frame number (f ∷ fs) = items_for frame number f ∷ items_each (frame + 1) (number + symbols_of f.rate f.length * length (presents_of f)) fs
