-- Room for the lines of frames: what a frame takes in a capture, and in a text.
use Rattle.std.proofs.Common.{◌≡◌, ◌⊎◌, inl, inr, ℕ, zero, suc, ◌+◌, ◌*◌, ◌^◌, ◌<◌, ◌≤◌, List, [], ◌∷◌, ◌++◌, length, map, flat_map, nat_eq, nat_le}
use Rattle.std.proofs.Common.{Bool, true, false, not, All, if◌then◌else◌, refl, sym, ap, subst, ◌∙◌, arith, length-append}
use Rattle.std.specs.List.{AllByRecursion, filter, range_with_len}
use Rattle.std.proofs.lemmas.Bool.Decides.{nat_tests}
use Rattle.std.proofs.Math.Nat.{mul-le-mul, mul-le-mul_right, le_trans}
use Rattle.ht_rate.specs.declared.rates.Rate.{Rate}
use Rattle.ht_rate.specs.Rates.{carriers_of, data_bits_of, needed_bits_of, streams_of, symbols_of}
use Rattle.ht_rate.proofs.LengthFacts.{symbols_of-holds}
use Rattle.ht_rate.proofs.RateFacts.{carriers_of-range, streams_of-range}
use Rattle.ht_metric.specs.Rows.{Leg}
use Rattle.ht_heads.specs.Heads.{head_octets, start_octets}
use Rattle.ht_capture.specs.declared.frames.CaptureFrame.{CaptureFrame}
use Rattle.ht_capture.specs.Contents.{AreTyped, AreWhole, IsVersion}
use Rattle.ht_capture.specs.Files.{AreCaptureFrames, FitsFrame, capture_file_of, capture_frame_octets, carriers_octets, flagged, flagged_octets, front_octets}
use Rattle.ht_capture.specs.Files.{is_erased, legs_octets, present_among, present_of, sample_octets, triangles_behind}
use Rattle.ht_capture.proofs.Decoded.{length-samples}
use Rattle.ht_capture.proofs.Filed.{all_present, many, some_symbols}
use Rattle.ht_library.proofs.SmallJobs.{samples_in}
use Rattle.ht_library.proofs.SymbolBits.{bits-few, bits-spread}

-- the octets of a frame
pub frame-octets : (version : ℕ) (f : CaptureFrame)
    → length (capture_frame_octets version f) ≡ 4 + length (carriers_octets version (carriers_of f.rate) f.erased f.triangles) + 8 * length f.samples
unfolding capture_frame_octets front_octets
frame-octets version f =
    omega (
      arith,
      length-append (head_octets f.rate f.length ++ carriers_octets version (carriers_of f.rate) f.erased f.triangles) (flat_map sample_octets f.samples),
      length-append (head_octets f.rate f.length) (carriers_octets version (carriers_of f.rate) f.erased f.triangles),
      length-samples f.samples,
    )

-- a flag at least for each subcarrier in version 2
flag-some : (b : Bool) (triangles : List (List Leg)) → 1 ≤ length (flagged b triangles)
flag-some true triangles = omega arith
flag-some false triangles = omega arith

flags-some : (n k e : ℕ) (triangles : List (List Leg)) → n ≤ length (flagged_octets n k e triangles)
flags-some zero k e triangles = omega arith
flags-some (suc n) k e triangles =
    let b : Bool = is_erased e k in
    omega (
      arith,
      flag-some b triangles,
      flags-some n (k + 1) e (triangles_behind b triangles),
      length-append (flagged b triangles) (flagged_octets n (k + 1) e (triangles_behind b triangles)),
    )

-- the room of a frame
abbrev pub room_of : CaptureFrame → ℕ
room_of f = 107 + 2 * f.length

abbrev pub rooms : List CaptureFrame → ℕ
rooms [] = 0
rooms (f ∷ frames) = room_of f + rooms frames

-- the bits of a frame's octets fit its symbols
holds : (f : CaptureFrame) (most : ℕ) → data_bits_of f.rate ≤ most → 8 * f.length ≤ symbols_of f.rate f.length * most
unfolding needed_bits_of
holds f most few =
    let n : ℕ = symbols_of f.rate f.length in
    let same : n ≤ n = omega arith in
    let more : n * data_bits_of f.rate ≤ n * most = mul-le-mul same few in
    omega (arith, (symbols_of-holds f.rate f.length).0, more)

times_5 : (n c s : ℕ) → n * (5 * (c * s)) ≡ 5 * (n * (c * s))
times_5 n c s = grind arith

times_540 : (n s : ℕ) → n * (540 * s) ≡ 540 * (n * s)
times_540 n s = grind arith

-- where all subcarriers are present, twice the room is less than the frame
pub whole-room : (version : ℕ) (f : CaptureFrame) → FitsFrame f → f.erased ≡ 0 → 2 * room_of f ≤ length (capture_frame_octets version f)
whole-room version f fits none =
    let n : ℕ = symbols_of f.rate f.length in
    let c : ℕ = carriers_of f.rate in
    let s : ℕ = streams_of f.rate in
    let all : present_of f ≡ c = ap (λ (e : ℕ). present_among c 0 e) none ∙ all_present c 0 in
    let samples : length f.samples ≡ n * (c * s) = fits.samples ∙ ap (λ (p : ℕ). n * (p * s)) all in
    let bits : 8 * f.length ≤ 5 * (n * (c * s)) = let b = holds f (5 * (c * s)) (bits-spread f.rate) in omega (arith, b, times_5 n c s) in
    let wide : 56 ≤ c = (carriers_of-range f.rate).0 in
    let streams : 1 ≤ s = (streams_of-range f.rate).0 in
    let each : 56 * 1 ≤ c * s = mul-le-mul wide streams in
    let some : 1 ≤ n = some_symbols f.rate f.length in
    let least : 1 * (56 * 1) ≤ n * (c * s) = mul-le-mul some each in
    omega (arith, frame-octets version f, samples, bits, least)

-- in version 2 the room is less than 17 times the frame
pub flagged-room : (version : ℕ) (f : CaptureFrame) → version ≡ 2 → FitsFrame f → room_of f ≤ 17 * length (capture_frame_octets version f)
unfolding carriers_octets
flagged-room version f two fits =
    let n : ℕ = symbols_of f.rate f.length in
    let c : ℕ = carriers_of f.rate in
    let s : ℕ = streams_of f.rate in
    let test : nat_eq version 2 ≡ true = ap (λ (v : ℕ). nat_eq v 2) two in
    let flags : c ≤ length (carriers_octets version c f.erased f.triangles) =
    subst (λ (b : Bool). c ≤ length (if b then flagged_octets c 0 f.erased f.triangles else flat_map legs_octets f.triangles)) (sym test)
    (flags-some c 0 f.erased f.triangles) in
    let bits : 8 * f.length ≤ 540 * (n * s) = let b = holds f (540 * s) (bits-few f.rate) in omega (arith, b, times_540 n s) in
    let wide : 56 ≤ c = (carriers_of-range f.rate).0 in
    let present : 1 ≤ present_of f = fits.present in
    let same : s ≤ s = omega arith in
    let row : 1 * s ≤ present_of f * s = mul-le-mul present same in
    let also : n ≤ n = omega arith in
    let all : n * (1 * s) ≤ n * (present_of f * s) = mul-le-mul also row in
    let one : n * (1 * s) ≡ n * s = ap (λ (k : ℕ). n * k) (omega arith) in
    let samples : length f.samples ≡ n * (present_of f * s) = fits.samples in
    omega (arith, frame-octets version f, samples, bits, all, one, flags, wide)

-- the rooms of frames
pub rooms-whole : (version : ℕ) (frames : List CaptureFrame) → AllByRecursion FitsFrame frames → AreWhole frames
    → 2 * rooms frames ≤ length (flat_map (capture_frame_octets version) frames)
rooms-whole version [] fits whole = omega arith
rooms-whole version (f ∷ frames) fits whole =
    omega (
      arith,
      whole-room version f fits.0 whole.0,
      rooms-whole version frames fits.1 whole.1,
      length-append (capture_frame_octets version f) (flat_map (capture_frame_octets version) frames),
    )

pub rooms-flagged : (version : ℕ) (frames : List CaptureFrame) → version ≡ 2 → AllByRecursion FitsFrame frames
    → rooms frames ≤ 17 * length (flat_map (capture_frame_octets version) frames)
rooms-flagged version [] two fits = omega arith
rooms-flagged version (f ∷ frames) two fits =
    omega (
      arith,
      flagged-room version f two fits.0,
      rooms-flagged version frames two fits.1,
      length-append (capture_frame_octets version f) (flat_map (capture_frame_octets version) frames),
    )

pub rooms-counted : (frames : List CaptureFrame) → AreTyped frames → rooms frames ≤ 131177 * length frames
rooms-counted [] typed = omega arith
rooms-counted (f ∷ frames) typed = let len = typed.0.length_is in omega (arith, len, rooms-counted frames typed.1)

-- and their samples
pub samples-held : (version : ℕ) (frames : List CaptureFrame) → 8 * samples_in frames ≤ length (flat_map (capture_frame_octets version) frames)
samples-held version [] = omega arith
samples-held version (f ∷ frames) =
    omega (
      arith,
      frame-octets version f,
      samples-held version frames,
      length-append (capture_frame_octets version f) (flat_map (capture_frame_octets version) frames),
    )
