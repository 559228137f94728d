-- What a capture of frames holds, and which numbers a frame has.
use Rattle.std.specs.Prelude.{ℕ, List, Bool, FitsSigned}
use Rattle.std.specs.Prelude.{◌≡◌, zero, suc, ◌+◌, ◌*◌, ◌<◌, ◌^◌, ◌⊎◌, [], ◌∷◌, ◌++◌, length, take, drop, slice_index_or, true, false}
use Rattle.std.specs.Int.{w16, w32}
use Rattle.ht_rate.specs.Rates.{streams_of, carriers_of, symbols_of}
use Rattle.ht_metric.specs.declared.tap.Tap.{Tap}
use Rattle.ht_metric.specs.declared.sample.Sample.{Sample}
use Rattle.ht_metric.specs.Jobs.{JobView}
use Rattle.ht_metric.specs.Rows.{Leg, rows_of}
use Rattle.ht_capture.specs.declared.frames.CaptureFrame.{CaptureFrame}
use Rattle.ht_capture.specs.declared.items.FrameHead.{FrameHead}
use Rattle.ht_capture.specs.declared.items.Item.{Item}
use Rattle.ht_capture.specs.declared.items.Item.TheVariants.{Frame, Job}
use Rattle.ht_capture.specs.declared.places.Present.{Present}
use Rattle.ht_capture.specs.Frames.{grid_at}
use Rattle.ht_capture.specs.Files.{HasAllCarriers, triangles_behind, is_erased}

-- a subcarrier that is present has the first of these triangles
abbrev pub seen : Bool → ℕ → List (List Leg) → List Present
seen true carrier triangles = []
seen false carrier triangles = record { carrier = carrier; triangle = slice_index_or triangles 0 [] } ∷ []

-- those that are present among a number of subcarriers from one on
abbrev pub presents : ℕ → ℕ → ℕ → List (List Leg) → List Present
presents zero carrier erased triangles = []
presents (suc n) carrier erased triangles =
    seen (is_erased erased carrier) carrier triangles ++ presents n (carrier + 1) erased (triangles_behind (is_erased erased carrier) triangles)

-- the job of a subcarrier of a symbol, whose samples come first: a system has one for each row
abbrev pub job_of : FrameHead → ℕ → ℕ → Present → List Sample → JobView
job_of head symbol number p samples = record {
  number = number;
  place = record { frame = head.frame; symbol = symbol; carrier = p.carrier };
  grid = grid_at head.rate symbol p.carrier;
  system = rows_of p.triangle samples;
}

-- the jobs of a symbol, numbered from a number on, in ascending order of the subcarriers
abbrev pub symbol_jobs : FrameHead → ℕ → ℕ → List Present → List Sample → List Item
symbol_jobs head symbol number [] samples = []
symbol_jobs head symbol number (p ∷ ps) samples =
    Job (job_of head symbol number p samples) ∷ symbol_jobs head symbol (number + 1) ps (drop (streams_of head.rate) samples)

-- the jobs of a number of symbols from one on
abbrev pub frame_jobs : ℕ → FrameHead → ℕ → ℕ → List Present → List Sample → List Item
frame_jobs zero head symbol number present samples = []
frame_jobs (suc n) head symbol number present samples =
    symbol_jobs head symbol number present (take (length present * streams_of head.rate) samples)
    ++ frame_jobs n head (symbol + 1) (number + length present) present (drop (length present * streams_of head.rate) samples)

-- the head of the frame with this number
abbrev pub head_of : ℕ → CaptureFrame → FrameHead
head_of frame f = record { frame = frame; rate = f.rate; length = f.length; erased = f.erased }

-- the subcarriers of a frame that are present, in ascending order, each with its triangle
abbrev pub presents_of : CaptureFrame → List Present
presents_of f = presents (carriers_of f.rate) 0 f.erased f.triangles

-- the head of a frame and its jobs, and then the next frames
unfoldable pub items_from : ℕ → ℕ → List CaptureFrame → List Item
items_from frame number [] = []
items_from frame number (f ∷ fs) =
    (Frame (head_of frame f) ∷ frame_jobs (symbols_of f.rate f.length) (head_of frame f) 0 number (presents_of f) f.samples)
    ++ items_from (frame + 1) (number + symbols_of f.rate f.length * length (presents_of f)) fs

-- the items of frames, where frames and jobs are numbered from 0
abbrev pub items_of : List CaptureFrame → List Item
items_of frames = items_from 0 0 frames

-- the numbers of the machine: two signed parts of 16 or 32 bits
abbrev pub AreTaps : List Tap → Type 0
AreTaps [] = Unit {0}
AreTaps (t ∷ ts) = FitsSigned w16 t.re × FitsSigned w16 t.im × AreTaps ts

abbrev pub AreSamples : List Sample → Type 0
AreSamples [] = Unit {0}
AreSamples (s ∷ ss) = FitsSigned w32 s.re × FitsSigned w32 s.im × AreSamples ss

-- a triangle: each row has a diagonal of 16 bits, and an entry for each row below it
abbrev pub AreLegs : List Leg → Type 0
AreLegs [] = Unit {0}
AreLegs (leg ∷ legs) = (leg.diagonal < 2 ^ 16) × (length leg.right ≡ length legs) × AreTaps leg.right × AreLegs legs

-- triangles with a row for each of this number of streams
abbrev pub AreTriangles : ℕ → List (List Leg) → Type 0
AreTriangles streams [] = Unit {0}
AreTriangles streams (t ∷ ts) = (length t ≡ streams) × AreLegs t × AreTriangles streams ts

-- the numbers of a frame are those of its types
pub record IsTyped (f : CaptureFrame) : Type 0 where
  pub length_is : f.length < 2 ^ 16
  pub triangles : AreTriangles (streams_of f.rate) f.triangles
  pub samples : AreSamples f.samples

-- the same of each of these frames
abbrev pub AreTyped : List CaptureFrame → Type 0
AreTyped [] = Unit {0}
AreTyped (f ∷ fs) = IsTyped f × AreTyped fs

-- no frame has an erased subcarrier
abbrev pub AreWhole : List CaptureFrame → Type 0
AreWhole [] = Unit {0}
AreWhole (f ∷ fs) = HasAllCarriers f × AreWhole fs

-- the frames can be written in the version: 1, which has no erased subcarriers, or 2
abbrev pub IsVersion : ℕ → List CaptureFrame → Type 0
IsVersion version frames = ((version ≡ 1) × AreWhole frames) ⊎ (version ≡ 2)
