use Rattle.ht_files.specs.SymbolFiles.{symbols_file_of}
use Rattle.ht_files.proofs.writing.write_symbols.Goals as goal

pub returns : goal.returns
unfolding symbols_file_of
returns g c = record {
  grown = c.write_whole.ensures.grown;
  steady = c.write_whole.ensures.steady;
  part = c.write_whole.ensures.part;
  cause = c.write_whole.ensures.cause;
  later = c.write_whole.ensures.later;
}
