use Rattle.ht_legacy_blocks.proofs.Seeing.{reads_behind}
use Rattle.ht_legacy_blocks.proofs.reader.LegacyReader.begin.Goals as goal

pub returns-in-Ok : goal.returns-in-Ok
returns-in-Ok g c =
    reads_behind c.args.most c.args.self.now c.start.new.self c.go.new.self (g.S.Source.shown c.args.source.now) (g.S.Source.shown c.start.new.source)
    (g.S.Source.shown c.go.new.source) c.go.result c.in-Ok.ensures.told c.start.ensures.later c.start.ensures.given c.start.ensures.never_more c.go.ensures
