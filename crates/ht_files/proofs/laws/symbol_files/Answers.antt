use Rattle.ht_files.proofs.PointRoutes.{symbols_files}
use Rattle.ht_files.proofs.laws.symbol_files.Goals as goal

pub returns : goal.returns
returns c = symbols_files
