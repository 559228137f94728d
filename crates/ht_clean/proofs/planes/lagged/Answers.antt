use Rattle.ht_clean.proofs.Flags.{lagged-flag}
use Rattle.ht_clean.proofs.planes.lagged.Goals as goal

pub returns : goal.returns
returns c = λ step lt.
    lagged-flag c.args.current c.args.previous c.args.width c.args.delay step c.requires.width c.requires.delay c.requires.whole lt
