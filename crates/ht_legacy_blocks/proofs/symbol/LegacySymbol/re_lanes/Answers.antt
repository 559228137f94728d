use Rattle.ht_legacy_blocks.proofs.Loaded.{lane-re}
use Rattle.ht_legacy_blocks.proofs.symbol.LegacySymbol.re_lanes.Goals as goal

pub returns : goal.returns
returns c k lt =
    rw (← c.self.view_is) (lane-re c.self.inside.samples c.args.first k c.from.result _ c.from.ensures c.requires lt (c.words.ensures k lt))
