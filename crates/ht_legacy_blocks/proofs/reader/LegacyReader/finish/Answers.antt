use Rattle.ht_legacy_blocks.proofs.Seeing.{finish_told}
use Rattle.ht_legacy_blocks.proofs.reader.LegacyReader.finish.Goals as goal

pub returns-clause-told : goal.returns-clause-told
returns-clause-told g c =
    finish_told c.args.self.now _ _ c.end.result c.requires.stage c.requires.none c.end.ensures.ended (rw (← c.self.view_is) c.end.ensures.further)
