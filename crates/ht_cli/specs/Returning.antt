-- Frames on their way through the commands, as far as the receiver.
use Rattle.std.specs.Prelude.{◌≡◌, ◌⊎◌, ℕ, List}
use Rattle.ht_capture.specs.declared.frames.CaptureFrame.{CaptureFrame}
use Rattle.ht_tx.specs.Frames.{FrameView}
use Rattle.ht_tx.specs.Symbols.{SymbolsView}
use Rattle.ht_files.specs.Files.{AreFrames, frames_file_of}
use Rattle.ht_files.specs.SymbolFiles.{AreSymbolFrames}
use Rattle.ht_round.specs.Exact.{AreExact, HoldOctets}
use Rattle.ht_sim.specs.Converting.{SendsTo}

-- these frames, whose octets are below 256, can be written in a file, of which `tx` makes this file of symbols
abbrev pub SendsFrames : List FrameView → List ℕ → Type 0
SendsFrames frames symbols = AreFrames frames × HoldOctets frames × SendsTo (frames_file_of frames) symbols

-- the symbols of a file, and the frames that are received of them exactly, for a capture of version 1 or 2
abbrev pub AreReceivedExactly : ℕ → List SymbolsView → List CaptureFrame → Type 0
AreReceivedExactly version sent captured = ((version ≡ 1) ⊎ (version ≡ 2)) × AreSymbolFrames sent × AreExact sent captured
