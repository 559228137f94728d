-- The octets of a file of symbols. All numbers are big-endian, signed ones in two's complement.
use Rattle.std.specs.Prelude.{ℕ, List, ◌++◌, flat_map}
use Rattle.ht_tx.specs.Symbols.{SymbolsView, IsSymbols}
use Rattle.ht_heads.specs.Heads.{head_octets}
use Rattle.ht_counted.specs.Counted.{AreCounted, counted_octets, frame_limits}
use Rattle.ht_files.specs.Points.{point_octets, symbols_magic}

-- the symbols of a frame: bandwidth, MCS and length, and the points in the order symbol, subcarrier, stream
unfoldable pub symbols_octets : SymbolsView → List ℕ
symbols_octets f = head_octets f.rate f.length ++ flat_map point_octets f.points

-- the file of the symbols of frames
unfoldable pub symbols_file_of : List SymbolsView → List ℕ
symbols_file_of frames = counted_octets symbols_magic 2 symbols_octets frames

-- all points of a PSDU of 1 to 65535 octets, each fitting its subcarrier
abbrev pub IsSymbolFrame : SymbolsView → Type 0
IsSymbolFrame f = IsSymbols f.rate f.length f.points

-- frames of whose symbols a file can be written: at most 65535
abbrev pub AreSymbolFrames : List SymbolsView → Type 0
AreSymbolFrames = AreCounted frame_limits IsSymbolFrame
