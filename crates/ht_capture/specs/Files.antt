-- Captures as octets: what is written of frames. All numbers are big-endian, signed ones in two's complement.
use Rattle.std.specs.Prelude.{ℕ, List, All, Bool}
use Rattle.std.specs.Prelude.{◌≡◌, zero, suc, ◌+◌, ◌*◌, ◌≤◌, ◌<◌, ◌^◌, [], ◌∷◌, ◌++◌, length, drop, flat_map}
use Rattle.std.specs.Prelude.{slice_index_or, nat_eq, true, false, ◌==◌, if◌then◌else◌}
use Rattle.std.specs.Int.{bit_at, cast_unsigned, w16, w32}
use Rattle.byteorder.specs.Endian.{big_bytes}
use Rattle.ht_rate.specs.Rates.{streams_of, carriers_of, symbols_of}
use Rattle.ht_metric.specs.declared.tap.Tap.{Tap}
use Rattle.ht_metric.specs.declared.sample.Sample.{Sample}
use Rattle.ht_metric.specs.Rows.{Leg, no_tap}
use Rattle.ht_capture.specs.declared.frames.CaptureFrame.{CaptureFrame}
use Rattle.ht_heads.specs.Heads.{head_octets, start_octets}
use Rattle.ht_capture.specs.Fields.{capture_magic}

-- an entry of a triangle: the real part and the imaginary part, of two octets each
abbrev pub tap_octets : Tap → List ℕ
tap_octets tap = big_bytes 2 (cast_unsigned w16 tap.re) ++ big_bytes 2 (cast_unsigned w16 tap.im)

-- a sample: the real part and the imaginary part, of four octets each
abbrev pub sample_octets : Sample → List ℕ
sample_octets s = big_bytes 4 (cast_unsigned w32 s.re) ++ big_bytes 4 (cast_unsigned w32 s.im)

-- the first entries, this number of them
abbrev pub taps_octets : ℕ → List Tap → List ℕ
taps_octets zero right = []
taps_octets (suc n) right = tap_octets (slice_index_or right 0 no_tap) ++ taps_octets n (drop 1 right)

-- a row of a triangle: the diagonal, and then this number of entries
abbrev pub leg_octets : ℕ → Leg → List ℕ
leg_octets n leg = big_bytes 2 leg.diagonal ++ taps_octets n leg.right

-- a triangle row by row, each with an entry for each row below it
abbrev pub legs_octets : List Leg → List ℕ
legs_octets [] = []
legs_octets (leg ∷ legs) = leg_octets (length legs) leg ++ legs_octets legs

-- whether a subcarrier is erased
abbrev pub is_erased : ℕ → ℕ → Bool
is_erased erased carrier = bit_at erased carrier == 1

-- how many of a number of subcarriers are present, from one on
abbrev pub present_among : ℕ → ℕ → ℕ → ℕ
present_among zero carrier erased = 0
present_among (suc n) carrier erased = if is_erased erased carrier then present_among n (carrier + 1) erased else 1 + present_among n (carrier + 1) erased

abbrev pub present_of : CaptureFrame → ℕ
present_of f = present_among (carriers_of f.rate) 0 f.erased

-- the flag of a subcarrier
abbrev pub flag_octet : Bool → ℕ
flag_octet true = 1
flag_octet false = 0

-- a subcarrier of version 2: the flag 1 where it is erased, else the flag 0 and the first of these triangles
abbrev pub flagged : Bool → List (List Leg) → List ℕ
flagged true triangles = 1 ∷ []
flagged false triangles = 0 ∷ legs_octets (slice_index_or triangles 0 [])

-- the triangles of the subcarriers behind it
abbrev pub triangles_behind : Bool → List (List Leg) → List (List Leg)
triangles_behind true triangles = triangles
triangles_behind false triangles = drop 1 triangles

-- a number of subcarriers of version 2, from one on
abbrev pub flagged_octets : ℕ → ℕ → ℕ → List (List Leg) → List ℕ
flagged_octets zero carrier erased triangles = []
flagged_octets (suc n) carrier erased triangles =
    flagged (is_erased erased carrier) triangles ++ flagged_octets n (carrier + 1) erased (triangles_behind (is_erased erased carrier) triangles)

-- a number of subcarriers from the first on, without flags in version 1
unfoldable pub carriers_octets : ℕ → ℕ → ℕ → List (List Leg) → List ℕ
carriers_octets version count erased triangles = if nat_eq version 2 then flagged_octets count 0 erased triangles else flat_map legs_octets triangles

-- what stands in front of the samples of a frame
unfoldable pub front_octets : ℕ → CaptureFrame → List ℕ
front_octets version f = head_octets f.rate f.length ++ carriers_octets version (carriers_of f.rate) f.erased f.triangles

unfoldable pub capture_frame_octets : ℕ → CaptureFrame → List ℕ
capture_frame_octets version f = front_octets version f ++ flat_map sample_octets f.samples

-- the magic, the version and the number of frames
abbrev pub capture_start : ℕ → ℕ → List ℕ
capture_start version count = start_octets capture_magic version count

-- the file of frames in a version
unfoldable pub capture_file_of : ℕ → List CaptureFrame → List ℕ
capture_file_of version frames = capture_start version (length frames) ++ flat_map (capture_frame_octets version) frames

-- A frame has a length, a subcarrier that is present, no mark beyond its subcarriers, and as many triangles and
-- samples as its present subcarriers, its symbols and its streams ask for.
pub record FitsFrame (f : CaptureFrame) : Type 0 where
  pub some : 1 ≤ f.length
  pub marks : f.erased < 2 ^ carriers_of f.rate
  pub present : 1 ≤ present_of f
  pub triangles : length f.triangles ≡ present_of f
  pub streams : All (λ t. length t ≡ streams_of f.rate) f.triangles
  pub samples : length f.samples ≡ symbols_of f.rate f.length * (present_of f * streams_of f.rate)

-- frames of which a capture can be written: at most 65535
pub record AreCaptureFrames (frames : List CaptureFrame) : Type 0 where
  pub few : length frames ≤ 65535
  pub fit : All FitsFrame frames

-- no subcarrier is erased
abbrev pub HasAllCarriers : CaptureFrame → Type 0
HasAllCarriers f = f.erased ≡ 0
