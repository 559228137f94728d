-- The octets of a file of clause 18 frames. All numbers are big-endian.
use Rattle.std.specs.Prelude.{ℕ, List}
use Rattle.ht_clause18.specs.Frames.{LegacyFrameView}
use Rattle.ht_counted.specs.Framed.{AreFramed, IsFramed, framed_file}
use Rattle.ht_legacy_files.specs.Formats.{frames_magic, framing}

-- the file of frames, each of them the index of its rate, the number of its octets, the seed, and the octets
unfoldable pub frames_file_of : List LegacyFrameView → List ℕ
frames_file_of frames = framed_file frames_magic framing frames

-- a frame has a seed and 1 to 4095 octets
abbrev pub IsFrame : LegacyFrameView → Type 0
IsFrame = IsFramed framing

-- frames of which a file can be written: at most 65535
abbrev pub AreFrames : List LegacyFrameView → Type 0
AreFrames = AreFramed framing
