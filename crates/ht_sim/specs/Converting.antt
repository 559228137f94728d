-- What the commands that read their input to its end make of it.
use Rattle.std.specs.Prelude.{◌≡◌, ℕ, List}
use Rattle.ht_capture.specs.declared.frames.CaptureFrame.{CaptureFrame}
use Rattle.ht_capture.specs.Files.{AreCaptureFrames, capture_file_of}
use Rattle.ht_capture.specs.Contents.{AreTyped, IsVersion}
use Rattle.ht_capture.specs.Fields.{captures}
use Rattle.ht_tx.specs.Frames.{FrameView}
use Rattle.ht_tx.specs.Symbols.{SymbolsView}
use Rattle.ht_tx.specs.Transmitted.{AreTransmitted}
use Rattle.ht_files.specs.Files.{AreFrames, frames_file_of}
use Rattle.ht_files.specs.Frames.{frames as frames_format}
use Rattle.ht_files.specs.SymbolFiles.{symbols_file_of}
use Rattle.ht_runs.specs.Filters.{BeforeOutput, Conversion}
use Rattle.ht_runs.specs.Formats.{conversion}

-- a capture of either version, and the capture of version 2 of the same frames, with the same erased subcarriers
abbrev pub UpgradesTo : List ℕ → List ℕ → Type 0
UpgradesTo octets output =
    (version : ℕ) × (frames : List CaptureFrame) × IsVersion version frames × AreCaptureFrames frames × AreTyped frames
    × (octets ≡ capture_file_of version frames) × (output ≡ capture_file_of 2 frames)

-- a file of frames, and the file of the symbols that are sent for them
abbrev pub SendsTo : List ℕ → List ℕ → Type 0
SendsTo octets output =
    (frames : List FrameView) × (sent : List SymbolsView) × AreFrames frames × AreTransmitted frames sent
    × (octets ≡ frames_file_of frames) × (output ≡ symbols_file_of sent)

-- the conversions of the commands, none of which takes memory once it writes
abbrev pub upgrading : Conversion
upgrading = conversion captures BeforeOutput UpgradesTo

-- the conversion of the command tx
abbrev pub sending : Conversion
sending = conversion frames_format BeforeOutput SendsTo
