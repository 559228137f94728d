use Rattle.ht_interleave.proofs.Only.{same_source}
use Rattle.ht_interleave.proofs.laws.same_source.Goals as goal

pub returns : goal.returns
returns c = same_source c.args.rate.now c.args.stream c.args.a.now c.args.b.now c.args.places.now c.requires.a c.requires.b
