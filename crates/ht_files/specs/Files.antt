-- The octets of a file of frames. All numbers are big-endian.
use Rattle.std.specs.Prelude.{ℕ, List}
use Rattle.ht_tx.specs.Frames.{FrameView}
use Rattle.ht_counted.specs.Counted.{counted_octets}
use Rattle.ht_counted.specs.Framed.{AreFramed, IsFramed, framed_octets}
use Rattle.ht_files.specs.Frames.{frames_magic, framing}

-- a frame: bandwidth, MCS and length, the seed, and the octets of the PSDU
unfoldable pub frame_octets : FrameView → List ℕ
frame_octets f = framed_octets framing f

-- the file of frames
unfoldable pub frames_file_of : List FrameView → List ℕ
frames_file_of frames = counted_octets frames_magic 2 frame_octets frames

-- a frame has a seed and 1 to 65535 octets
abbrev pub IsFrame : FrameView → Type 0
IsFrame = IsFramed framing

-- frames of which a file can be written: at most 65535
abbrev pub AreFrames : List FrameView → Type 0
AreFrames = AreFramed framing
