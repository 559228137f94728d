use Rattle.ht_fields.proofs.FormatLaws.{each_written}
use Rattle.ht_files.specs.Points.{symbols}
use Rattle.ht_files.specs.SymbolFiles.{AreSymbolFrames, symbols_file_of}
use Rattle.ht_files.proofs.SymbolFiles.{of_symbols}
use Rattle.ht_files.proofs.files.each_of_symbols.Goals as goal

pub returns : goal.returns
returns c = each_written symbols AreSymbolFrames symbols_file_of of_symbols
