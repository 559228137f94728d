use Rattle.ht_files.specs.SymbolFiles.{symbols_file_of}
use Rattle.ht_files.proofs.PointRoutes.{symbols_counted}
use Rattle.ht_files.proofs.symbols.read_symbols.Goals as goal

pub read_whole-requires-clause-counted : goal.read_whole-requires-clause-counted
read_whole-requires-clause-counted g c = symbols_counted

pub returns-clause-file : goal.returns-clause-file
unfolding symbols_file_of
returns-clause-file g c = c.read_whole.ensures.file
