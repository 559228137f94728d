-- Frames that have the seed of the scrambler and the octets of a PSDU behind their heads: what is due there, and what is written.
use Rattle.std.specs.Prelude.{◌≡◌, ℕ, ◌+◌, ◌-◌, ◌*◌, ◌^◌, ◌<◌, ◌≤◌, List, [], ◌∷◌, ◌++◌, length}
use Rattle.ht_io.specs.declared.faults.Kind.TheVariants.{BadSeed}
use Rattle.ht_fields.specs.Grammar.{Due, field, Verdict, Good}
use Rattle.ht_fields.specs.Tests.{checked, octet_of}
use Rattle.ht_scramble.specs.Sequence.{IsSeed}
use Rattle.ht_heads.specs.Starts.{StartState, Body}
use Rattle.ht_counted.specs.Counted.{AreCounted, CountedFormat, LeadsBy, counted, counted_octets, entries_due, frame_limits}
use Rattle.ht_counted.specs.Seeds.{is_no_seed}

-- which field is due behind the head of a frame, by the number of frames that are left, this one among them, and by what the
-- head says, a rate and the number of octets: the seed, or the octets
pub data FrameState (R : Type 0) : Type 0 where
  Seed : ℕ → R → ℕ → FrameState R
  Octets : ℕ → R → ℕ → ℕ → FrameState R

-- what a file says of a frame
pub record FrameParts (R : Type 0) : Type 0 where
  pub rate : R
  pub seed : ℕ
  pub octets : List ℕ

-- how frames stand in a file: the octets of a head and their number, the most octets of a PSDU, the states behind a head, and
-- frames by what a file says of them
pub record Framing (B R V : Type 0) : Type 0 where
  pub head : R → ℕ → List ℕ
  pub width : ℕ
  pub most : ℕ
  pub behind : FrameState R → B
  pub frame : FrameParts R → V
  pub parts : V → FrameParts R

-- behind a seed that is not at fault the octets of the frame are due
unfoldable pub good_seed : {B R V : Type 0} → Framing B R V → ℕ → R → ℕ → List ℕ → Verdict (StartState B) V
good_seed h left rate len octets = Good (Body (h.behind (Octets left rate len (octet_of octets)))) []

-- behind its octets the frame is whole, and the next one is due
unfoldable pub good_octets : {B R V : Type 0} → (ℕ → B) → Framing B R V → ℕ → R → ℕ → List ℕ → Verdict (StartState B) V
good_octets first h left rate seed octets =
    Good (entries_due first (left - 1)) (h.frame (record { rate = rate; seed = seed; octets = octets }) ∷ [])

-- what is due behind the head of a frame, by the first field of a frame; its octets are one field, since none of them can be
-- at fault
abbrev pub framed_due : {B R V : Type 0} → (ℕ → B) → Framing B R V → FrameState R → Due (StartState B) V
framed_due first h (Seed left rate len) = field 1 (checked BadSeed is_no_seed (good_seed h left rate len))
framed_due first h (Octets left rate len seed) = field len (good_octets first h left rate seed)

-- what stands in front of the octets of a frame: the head and the seed
abbrev pub front_octets : {B R V : Type 0} → Framing B R V → V → List ℕ
front_octets h v = h.head (h.parts v).rate (length (h.parts v).octets) ++ ((h.parts v).seed ∷ [])

-- a frame: its head, the seed, and the octets of the PSDU
abbrev pub framed_octets : {B R V : Type 0} → Framing B R V → V → List ℕ
framed_octets h v = h.head (h.parts v).rate (length (h.parts v).octets) ++ ((h.parts v).seed ∷ (h.parts v).octets)

-- the most octets of a frame
abbrev pub framed_most : {B R V : Type 0} → Framing B R V → ℕ
framed_most h = h.width + 1 + h.most

-- at least one octet, and at most this number of them
abbrev pub HasOctets : ℕ → List ℕ → Type 0
HasOctets most octets = (1 ≤ length octets) × (length octets ≤ most)

-- a frame that can be written: it has a seed and at least one octet
pub record IsFramed {B R V : Type 0} (h : Framing B R V) (v : V) : Type 0 where
  pub seed : IsSeed (h.parts v).seed
  pub octets : HasOctets h.most (h.parts v).octets

-- frames of which a file can be written: at most 65535
abbrev pub AreFramed : {B R V : Type 0} → Framing B R V → List V → Type 0
AreFramed h = AreCounted frame_limits (IsFramed h)

-- the file of frames
abbrev pub framed_file : {B R V : Type 0} → List ℕ → Framing B R V → List V → List ℕ
framed_file magic h frames = counted_octets magic 2 (framed_octets h) frames

-- a format of which these are the frames: each head leads to the seed, and no file is too long for offsets of 64 bits
pub record IsFraming {B R V : Type 0} (f : CountedFormat B V) (h : Framing B R V) : Type 0 where
  pub limits : f.limits ≡ frame_limits
  pub due : (s : FrameState R) → f.due (h.behind s) ≡ framed_due f.first h s
  pub head : (left : ℕ) (rate : R) (len : ℕ) → 0 < left → 1 ≤ len → len ≤ h.most
      → LeadsBy (counted f) (entries_due f.first left) (Body (h.behind (Seed left rate len))) (h.head rate len) []
  pub width : (rate : R) (len : ℕ) → length (h.head rate len) ≡ h.width
  pub bound : 13 + 65535 * framed_most h < 2 ^ 64
  pub parts : (p : FrameParts R) → h.parts (h.frame p) ≡ p
  pub whole : (v : V) → h.frame (h.parts v) ≡ v
