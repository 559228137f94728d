use Rattle.ht_legacy_blocks.proofs.Octets.{one_stream}
use Rattle.ht_legacy_blocks.proofs.symbol.LegacySymbol.job.Goals as goal

pub new-requires : goal.new-requires
new-requires c = one_stream c.grid-grid.result c.one_row-system.result _ _ _ _ _ c.grid-grid.ensures c.one_row-system.ensures
