use Rattle.std.proofs.Common.{arith}
use Rattle.ht_rate.proofs.LengthFacts.{labels_of-bound}
use Rattle.ht_rate.proofs.laws.labels.Goals as goal

pub returns : goal.returns
returns c = labels_of-bound c.args.rate.now c.args.length (omega arith)
