use Rattle.ht_fields.proofs.FormatLaws.{clean_ends}
use Rattle.ht_files.specs.Points.{symbols}
use Rattle.ht_files.proofs.SymbolFiles.{symbols_can_end}
use Rattle.ht_files.proofs.beginnings.clean_symbols_can_end.Goals as goal

pub returns : goal.returns
returns c = clean_ends symbols symbols_can_end
