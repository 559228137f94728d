use Rattle.ht_legacy_blocks.proofs.Octets.{diagonal_is}
use Rattle.ht_legacy_blocks.proofs.symbol.LegacySymbol.diagonal.Goals as goal

pub returns : goal.returns
returns c =
    rw (← c.self.view_is) (diagonal_is c.self.inside.diagonals c.args.carrier c.from.result c.number.result c.from.ensures c.requires c.number.ensures)
