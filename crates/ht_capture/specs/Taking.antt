-- What reading the frames of a capture whole does to its source.
use Rattle.std.specs.Prelude.{◌≡◌, ◌⊎◌, ℕ, ◌+◌, ◌-◌, ◌≤◌, ◌<◌, ◌^◌, List, [], ◌∷◌, ◌++◌, length, map, flat_map, nat_eq, Bool, true, false, if◌then◌else◌}
use Rattle.ht_io.specs.Devices.{Device, Takes}
use Rattle.ht_fields.specs.WholeFiles.{ReadsWhole}
use Rattle.ht_rate.specs.declared.rates.Rate.{Rate}
use Rattle.ht_rate.specs.Rates.{streams_of}
use Rattle.ht_metric.specs.declared.sample.Sample.{Sample}
use Rattle.ht_metric.specs.Rows.{Leg}
use Rattle.ht_capture.specs.declared.frames.CaptureFrame.{CaptureFrame}
use Rattle.ht_capture.specs.declared.items.FrameHead.{FrameHead}
use Rattle.ht_capture.specs.declared.places.Present.{Present}
use Rattle.ht_capture.specs.declared.places.Turn.{Turn}
use Rattle.ht_capture.specs.Frames.{erase}
use Rattle.ht_capture.specs.Files.{AreCaptureFrames, carriers_octets, capture_file_of, legs_octets, present_among, sample_octets}
use Rattle.ht_capture.specs.Contents.{AreLegs, AreSamples, AreTriangles, AreTyped, IsVersion}

-- the flag of a subcarrier that is present, in version 2
abbrev pub kept_flag : ℕ → List ℕ
kept_flag version = if nat_eq version 2 then 0 ∷ [] else []

-- the flag of a subcarrier was taken, where the version has flags: a subcarrier is erased in version 2 alone
abbrev pub TakesFlag : ℕ → Device ℕ → Device ℕ → Bool → Type 0
TakesFlag version source later true = (version ≡ 2) × Takes source later (1 ∷ [])
TakesFlag version source later false = Takes source later (kept_flag version)

-- a subcarrier that is present was read behind these octets: it has a triangle, and stands behind those that were kept
abbrev pub Keeps : ℕ → List ℕ → ℕ → List Present → List Present → Device ℕ → Device ℕ → Type 0
Keeps streams front carrier present after source later =
    (legs : List Leg) × (length legs ≡ streams) × (after ≡ present ++ record { carrier = carrier; triangle = legs } ∷ [])
    × AreLegs legs × Takes source later (front ++ legs_octets legs)

-- a subcarrier was read: it is erased, in version 2, or it is present
abbrev pub Adds : ℕ → ℕ → FrameHead → FrameHead → List Present → List Present → Device ℕ → Device ℕ → Type 0
Adds version carrier old new present after source later =
    ((version ≡ 2) × (new ≡ erase old carrier) × (after ≡ present) × Takes source later (1 ∷ []))
    ⊎ ((new ≡ old) × Keeps (streams_of old.rate) (kept_flag version) carrier present after source later)

-- the triangles of subcarriers
abbrev pub triangles_of : List Present → List (List Leg)
triangles_of present = map (λ p. p.triangle) present

-- the lowest subcarriers were read, this number of them, with these marks and triangles
pub record AreRead (version count : ℕ) (rate : Rate) (erased : ℕ) (triangles : List (List Leg)) (source later : Device ℕ) : Type 0 where
  pub octets : Takes source later (carriers_octets version count erased triangles)
  pub marks : erased < 2 ^ count
  pub whole : (version ≡ 2 → ⊥) → erased ≡ 0
  pub present : length triangles ≡ present_among count 0 erased
  pub typed : AreTriangles (streams_of rate) triangles

-- frames as they are read of a file in a version
abbrev pub AreWritten : ℕ → List CaptureFrame → Type 0
AreWritten version frames = IsVersion version frames × AreCaptureFrames frames × AreTyped frames

-- the octets that were left are the file of these frames in a version, and were all taken
abbrev pub ReadsCaptures : Device ℕ → Device ℕ → List CaptureFrame → Type 0
ReadsCaptures before after frames =
    (version : ℕ) × ReadsWhole (AreWritten version) (capture_file_of version) before after frames

-- samples were read behind others, from these octets
abbrev pub AddsSamples : List Sample → List Sample → List ℕ → Type 0
AddsSamples old new octets = (more : List Sample) × (new ≡ old ++ more) × AreSamples more × (flat_map sample_octets more ≡ octets)

-- in the same frame
abbrev pub SameTurn : Turn → Turn → Type 0
SameTurn new old = (new.version ≡ old.version) × (new.left ≡ old.left) × (new.frame ≡ old.frame)

-- one frame further, with the jobs of a frame
pub record IsBehind (new old : Turn) : Type 0 where
  pub version : new.version ≡ old.version
  pub left : new.left ≡ old.left - 1
  pub frame : new.frame ≡ old.frame + 1
  pub number : new.number ≤ old.number + 2298924
