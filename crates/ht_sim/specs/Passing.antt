-- What passing a file of symbols through the channel comes to.
use Rattle.std.specs.Prelude.{◌≡◌, ℕ, List}
use Rattle.ht_capture.specs.Files.{capture_file_of}
use Rattle.ht_tx.specs.Symbols.{SymbolsView}
use Rattle.ht_files.specs.Points.{symbols}
use Rattle.ht_files.specs.SymbolFiles.{AreSymbolFrames, symbols_file_of}
use Rattle.ht_runs.specs.Filters.{BeforeOutput, Conversion}
use Rattle.ht_runs.specs.Formats.{conversion}
use Rattle.ht_sim.specs.Channel.{captures_of}

-- a file of symbols, and the capture of version 1 of its frames, passed with this seed and this noise
abbrev pub PassesTo : ℕ → ℕ → List ℕ → List ℕ → Type 0
PassesTo seed noise octets output =
    (frames : List SymbolsView) × AreSymbolFrames frames × (octets ≡ symbols_file_of frames)
    × (output ≡ capture_file_of 1 (captures_of seed noise frames))

-- a file of symbols is read, and put is what it passes to
abbrev pub passing : ℕ → ℕ → Conversion
passing seed noise = conversion symbols BeforeOutput (PassesTo seed noise)
