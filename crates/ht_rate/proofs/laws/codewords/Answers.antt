use Rattle.ht_rate.proofs.LengthFacts.{steps_of-shared, steps_of-within}
use Rattle.ht_rate.proofs.laws.codewords.Goals as goal

pub returns : goal.returns
returns c = record {
  whole = steps_of-shared c.args.rate.now c.args.length;
  within = steps_of-within c.args.rate.now c.args.length;
}
