use Rattle.ht_words.specs.Words.{asked}
use Rattle.ht_cli.proofs.Exactly.{sure_exactly}
use Rattle.ht_cli.proofs.laws.run_sure.Goals as goal

pub returns-clause-exact : goal.returns-clause-exact
returns-clause-exact c =
    sure_exactly (asked c.args.words.now) c.args.source.now c.run_alone.new.source c.args.sink.now c.run_alone.new.sink c.run_alone.result
    c.run_alone.ensures.answered
