use Rattle.ht_legacy_blocks.proofs.Loaded.{lane-diagonal}
use Rattle.ht_legacy_blocks.proofs.symbol.LegacySymbol.diagonals.Goals as goal

pub returns-clause-values : goal.returns-clause-values
returns-clause-values c k lt =
    rw (← c.self.view_is) (lane-diagonal c.self.inside.diagonals c.args.first k c.from.result _ c.from.ensures c.requires lt (c.shorts.ensures.values k lt))

pub returns-clause-small : goal.returns-clause-small
returns-clause-small c = c.shorts.ensures.below
