-- The octets of a capture of clause 18 frames. All numbers are big-endian, signed ones in two's complement.
use Rattle.std.specs.Prelude.{◌≡◌, ℕ, zero, suc, ◌*◌, ◌<◌, ◌≤◌, ◌^◌, List, [], ◌∷◌, ◌++◌, length, take, drop, flat_map, All}
use Rattle.byteorder.specs.Endian.{big_bytes}
use Rattle.ht_metric.specs.declared.sample.Sample.{Sample}
use Rattle.ht_capture.specs.Contents.{AreSamples}
use Rattle.ht_capture.specs.Files.{sample_octets}
use Rattle.ht_clause18.specs.Carriers.{carriers}
use Rattle.ht_clause18.specs.Rates.{index_of, symbols_of}
use Rattle.ht_counted.specs.Counted.{AreCounted, counted_octets, frame_limits}
use Rattle.ht_legacy_files.specs.CaptureFormats.{captures_magic}
use Rattle.ht_legacy_files.specs.CaptureItems.{LegacyHead, LegacyItem, Begins, Symbol}

-- a frame in a capture: its head, and its samples in the order symbol, subcarrier
pub record LegacyCapture : Type 0 where
  pub head : LegacyHead
  pub samples : List Sample

-- the index of the rate, the number of octets of the PSDU, and the diagonals
unfoldable pub head_octets : LegacyHead → List ℕ
head_octets h = index_of h.rate ∷ (big_bytes 2 h.length ++ flat_map (big_bytes 2) h.diagonals)

unfoldable pub capture_octets : LegacyCapture → List ℕ
capture_octets c = head_octets c.head ++ flat_map sample_octets c.samples

-- the file of frames
unfoldable pub captures_file_of : List LegacyCapture → List ℕ
captures_file_of frames = counted_octets captures_magic 2 capture_octets frames

-- the symbols of samples, this number of them
abbrev pub symbols_from : ℕ → List Sample → List LegacyItem
symbols_from zero samples = []
symbols_from (suc n) samples = Symbol (take carriers samples) ∷ symbols_from n (drop carriers samples)

-- the head of a frame, and its symbols
abbrev pub capture_items : LegacyCapture → List LegacyItem
capture_items c = Begins c.head ∷ symbols_from (symbols_of c.head.rate c.head.length) c.samples

abbrev pub items_of : List LegacyCapture → List LegacyItem
items_of frames = flat_map capture_items frames

-- a frame has 1 to 4095 octets, a diagonal of 16 bits for each subcarrier, and a sample for each subcarrier of each symbol,
-- whose parts have 32 bits
pub record IsCapture (c : LegacyCapture) : Type 0 where
  pub some : 1 ≤ c.head.length
  pub few : c.head.length ≤ 4095
  pub diagonals : length c.head.diagonals ≡ carriers
  pub small : All (λ d. d < 2 ^ 16) c.head.diagonals
  pub samples : length c.samples ≡ symbols_of c.head.rate c.head.length * carriers
  pub typed : AreSamples c.samples

-- frames of which a capture can be written: at most 65535
abbrev pub AreCaptures : List LegacyCapture → Type 0
AreCaptures = AreCounted frame_limits IsCapture
