-- What octets are that lead from a state of a capture to its end.
use Rattle.std.proofs.Common.{◌≡◌, ℕ, ◌+◌, ◌-◌, ◌*◌, ◌<◌, ◌≤◌, ◌^◌, List, [], ◌∷◌, ◌++◌, length, flat_map, nat_eq, Bool, true, false}
use Rattle.std.specs.List.{AllByRecursion}
use Rattle.byteorder.specs.Endian.{big_bytes}
use Rattle.ht_rate.specs.Schemes.{bandwidth_code}
use Rattle.ht_rate.specs.Rates.{bandwidth_of, carriers_of, mcs_of, streams_of}
use Rattle.ht_metric.specs.declared.sample.Sample.{Sample}
use Rattle.ht_metric.specs.Rows.{Leg}
use Rattle.ht_capture.specs.declared.frames.CaptureFrame.{CaptureFrame}
use Rattle.ht_capture.specs.declared.items.FrameHead.{FrameHead}
use Rattle.ht_capture.specs.declared.places.SymbolTurn.{SymbolTurn}
use Rattle.ht_capture.specs.declared.places.Turn.{Turn}
use Rattle.ht_capture.specs.Contents.{AreLegs, AreSamples, AreTriangles, IsTyped}
use Rattle.ht_capture.specs.Fields.{CaptureState, Magic, Version, Count, Bandwidth, Mcs, Length, Flag, Triangle, Symbol, Over, known_version}
use Rattle.ht_capture.specs.Files.{FitsFrame, HasAllCarriers, carriers_octets, flagged_octets, capture_frame_octets}
use Rattle.ht_capture.specs.Files.{is_erased, legs_octets, present_among, sample_octets}
use Rattle.ht_capture_laws.specs.Items.{symbols_in}
use Rattle.ht_heads.specs.Heads.{head_octets}

-- a frame that can stand in a capture of the version
pub record GoodFrame (version : ℕ) (f : CaptureFrame) : Type 0 where
  pub fits : FitsFrame f
  pub typed : IsTyped f
  pub whole : (version ≡ 2 → ⊥) → HasAllCarriers f

abbrev pub frames_octets : ℕ → List CaptureFrame → List ℕ
frames_octets version frames = flat_map (capture_frame_octets version) frames

-- the frames that are left, and their number
pub record FramesTail (version left : ℕ) (octets : List ℕ) : Type 0 where
  pub frames : List CaptureFrame
  pub split : octets ≡ frames_octets version frames
  pub count : length frames ≡ left
  pub good : AllByRecursion (GoodFrame version) frames

-- the samples of the symbols from one on, and then the frames behind
pub record SamplesTail (due : SymbolTurn) (octets : List ℕ) : Type 0 where
  pub samples : List Sample
  pub frames : List CaptureFrame
  pub split : octets ≡ flat_map sample_octets samples ++ frames_octets due.turn.version frames
  pub typed : AreSamples samples
  pub symbols : ℕ
  pub last : due.symbol + symbols ≡ due.symbols
  pub size : length samples ≡ symbols * (due.count * streams_of due.head.rate)
  pub left : length frames ≡ due.turn.left - 1
  pub good : AllByRecursion (GoodFrame due.turn.version) frames

-- n subcarriers from one on, with flags or without
abbrev pub carriers_by : Bool → ℕ → ℕ → ℕ → List (List Leg) → List ℕ
carriers_by true n carrier erased triangles = flagged_octets n carrier erased triangles
carriers_by false n carrier erased triangles = flat_map legs_octets triangles

-- the subcarriers from one on, where `seen` of the lower ones are present, and then the samples and the frames behind
pub record CarriersTail (turn : Turn) (head : FrameHead) (carrier seen : ℕ) (octets : List ℕ) : Type 0 where
  pub n : ℕ
  pub all : carrier + n ≡ carriers_of head.rate
  pub erased : ℕ
  pub triangles : List (List Leg)
  pub samples : List Sample
  pub frames : List CaptureFrame
  pub split : octets ≡ carriers_by (nat_eq turn.version 2) n carrier erased triangles ++ (flat_map sample_octets samples ++ frames_octets turn.version frames)
  pub below : (i : ℕ) → i < carrier → is_erased erased i ≡ is_erased head.erased i
  pub marks : erased < 2 ^ carriers_of head.rate
  pub whole : (turn.version ≡ 2 → ⊥) → erased ≡ head.erased
  pub present : length triangles ≡ present_among n carrier erased
  pub legs : AreTriangles (streams_of head.rate) triangles
  pub some : 1 ≤ seen + length triangles
  pub typed : AreSamples samples
  pub size : length samples ≡ symbols_in head * ((seen + length triangles) * streams_of head.rate)
  pub left : length frames ≡ turn.left - 1
  pub good : AllByRecursion (GoodFrame turn.version) frames

-- the triangle of a subcarrier, and then the subcarriers behind it
pub record TriangleTail (turn : Turn) (head : FrameHead) (carrier seen : ℕ) (octets : List ℕ) : Type 0 where
  pub legs : List Leg
  pub rest : List ℕ
  pub split : octets ≡ legs_octets legs ++ rest
  pub streams : length legs ≡ streams_of head.rate
  pub typed : AreLegs legs
  pub tail : CarriersTail turn head (carrier + 1) (seen + 1) rest

-- what stands behind the head of a frame
abbrev pub behind_head : ℕ → CaptureFrame → List CaptureFrame → List ℕ
behind_head version f frames =
    carriers_octets version (carriers_of f.rate) f.erased f.triangles ++ (flat_map sample_octets f.samples ++ frames_octets version frames)

-- a frame from a part of its head on, and then the frames behind
pub record FrameTail (turn : Turn) (front : CaptureFrame → List ℕ) (octets : List ℕ) : Type 0 where
  pub frame : CaptureFrame
  pub frames : List CaptureFrame
  pub split : octets ≡ front frame ++ behind_head turn.version frame frames
  pub is_good : GoodFrame turn.version frame
  pub left : length frames ≡ turn.left - 1
  pub good : AllByRecursion (GoodFrame turn.version) frames

-- the number of frames, and the frames
pub record CountTail (version : ℕ) (octets : List ℕ) : Type 0 where
  pub frames : List CaptureFrame
  pub split : octets ≡ big_bytes 2 (length frames) ++ frames_octets version frames
  pub few : length frames < 2 ^ 16
  pub good : AllByRecursion (GoodFrame version) frames

abbrev pub VersionTail : List ℕ → Type 0
VersionTail octets = (version : ℕ) × (rest : List ℕ) × (octets ≡ version ∷ rest) × (known_version version ≡ true) × CountTail version rest

-- what octets are that lead from a state to the end
abbrev pub Wrote : CaptureState → List ℕ → Type 0
Wrote (Magic x xs) octets = (rest : List ℕ) × (octets ≡ (x ∷ xs) ++ rest) × VersionTail rest
Wrote Version octets = VersionTail octets
Wrote (Count version) octets = CountTail version octets
Wrote (Bandwidth turn) octets = FrameTail turn (λ f. head_octets f.rate f.length) octets
Wrote (Mcs turn bandwidth) octets =
    (tail : FrameTail turn (λ f. mcs_of f.rate ∷ big_bytes 2 f.length) octets) × (bandwidth ≤ 1 → bandwidth_code (bandwidth_of tail.frame.rate) ≡ bandwidth)
Wrote (Length turn rate) octets = (tail : FrameTail turn (λ f. big_bytes 2 f.length) octets) × (tail.frame.rate ≡ rate)
Wrote (Flag turn head carrier present) octets = turn.version ≡ 2 → CarriersTail turn head carrier (length present) octets
Wrote (Triangle turn head carrier present) octets = TriangleTail turn head carrier (length present) octets
Wrote (Symbol due present) octets = SamplesTail due octets
Wrote Over octets = octets ≡ []

-- a field in front of what leads to the end leads there too
abbrev pub Back : CaptureState → List ℕ → CaptureState → Type 0
Back s x next = (rest : List ℕ) → Wrote next rest → Wrote s (x ++ rest)
