use Rattle.ht_rate.proofs.Numbers.{same_rate}
use Rattle.ht_rate.proofs.laws.same.Goals as goal

pub returns : goal.returns
returns c = same_rate c.args.a.now c.args.b.now c.requires.bandwidth c.requires.mcs
