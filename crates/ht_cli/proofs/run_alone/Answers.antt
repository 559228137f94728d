use Rattle.ht_words.specs.Words.{asked}
use Rattle.ht_cli.proofs.Nothing.{nothing_carried}
use Rattle.ht_cli.proofs.run_alone.Goals as goal

pub returns-in-Err : goal.returns-in-Err
returns-in-Err g c =
    nothing_carried g.S.Source.shown g.K.Sink.shown (asked c.args.words.now) c.args.source.now c.args.sink.now
