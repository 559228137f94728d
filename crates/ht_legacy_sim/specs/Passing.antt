-- What passing a file of clause 18 frames through the channel comes to.
use Rattle.std.specs.Prelude.{◌≡◌, ℕ, List}
use Rattle.ht_clause18.specs.Frames.{LegacyFrameView}
use Rattle.ht_runs.specs.Filters.{Conversion, WithinOutput}
use Rattle.ht_runs.specs.Formats.{conversion}
use Rattle.ht_legacy_files.specs.Files.{AreFrames, frames_file_of}
use Rattle.ht_legacy_files.specs.Formats.{frames as frames_format}
use Rattle.ht_legacy_files.specs.CaptureFiles.{captures_file_of}
use Rattle.ht_legacy_sim.specs.Drawing.{captures_of}

-- a file of frames, and the capture of what is sent of them, passed with this seed and this noise
abbrev pub PassesTo : ℕ → ℕ → List ℕ → List ℕ → Type 0
PassesTo seed noise octets output =
    (frames : List LegacyFrameView) × AreFrames frames × (octets ≡ frames_file_of frames)
    × (output ≡ captures_file_of (captures_of seed noise frames))

-- A file of frames is read, and put is what it passes to. Memory is taken from frame to frame, so it may run out between
-- frames: then a part of the capture from its front was put.
abbrev pub passing : ℕ → ℕ → Conversion
passing seed noise = conversion frames_format WithinOutput (PassesTo seed noise)
