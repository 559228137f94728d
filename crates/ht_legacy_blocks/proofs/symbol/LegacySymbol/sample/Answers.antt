use Rattle.ht_legacy_blocks.proofs.Octets.{sample_is}
use Rattle.ht_legacy_blocks.proofs.symbol.LegacySymbol.sample.Goals as goal

pub returns : goal.returns
returns c =
    rw (← c.self.view_is) (sample_is c.self.inside.samples c.args.carrier c.from.result c.sample.result c.from.ensures c.requires c.sample.ensures)
