use Rattle.ht_files.proofs.PointRoutes.{length_symbols}
use Rattle.ht_files.proofs.symbols.SymbolFramesEntries.size.Goals as goal

pub returns : goal.returns
returns c = length_symbols c.args.frame.now c.points.result.now c.points.ensures.value
