use Rattle.ht_legacy_blocks.proofs.Seeing.{reads_behind}
use Rattle.ht_legacy_blocks.proofs.reader.LegacyReader.symbol_block.Goals as goal

pub returns-in-Ok : goal.returns-in-Ok
returns-in-Ok g c =
    reads_behind c.args.most c.args.self.now c.symbol.new.self c.block.new.self (g.S.Source.shown c.args.source.now) (g.S.Source.shown c.symbol.new.source)
    (g.S.Source.shown c.block.new.source) c.block.result c.in-Ok.ensures.told c.symbol.ensures.later c.in-Ok.ensures.given c.symbol.ensures.never_more
    c.block.ensures
