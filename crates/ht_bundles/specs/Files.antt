-- The octets of a bundle of captures. All numbers are big-endian.
use Rattle.std.specs.Prelude.{ℕ, ◌<◌, ◌^◌, List, ◌++◌, length}
use Rattle.byteorder.specs.Endian.{big_bytes}
use Rattle.ht_counted.specs.Counted.{AreCounted, counted_octets}
use Rattle.ht_bundles.specs.Formats.{bundle_magic, capture_limits}

-- a capture: the number of its octets, and the octets
unfoldable pub sized_octets : List ℕ → List ℕ
sized_octets capture = big_bytes 4 (length capture) ++ capture

-- the bundle of captures
unfoldable pub bundle_of : List (List ℕ) → List ℕ
bundle_of captures = counted_octets bundle_magic 1 sized_octets captures

-- the octets of a capture are fewer than 2^32
abbrev pub IsSized : List ℕ → Type 0
IsSized capture = length capture < 2 ^ 32

-- captures of which a bundle can be made: 1 to 16
abbrev pub AreCaptures : List (List ℕ) → Type 0
AreCaptures = AreCounted capture_limits IsSized
