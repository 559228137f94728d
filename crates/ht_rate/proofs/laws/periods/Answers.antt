use Rattle.ht_rate.proofs.LengthFacts.{data_share-periods, data_share-coded}
use Rattle.ht_rate.proofs.laws.periods.Goals as goal

pub returns : goal.returns
returns c = record {
  whole = data_share-periods c.args.rate.now;
  coded = data_share-coded c.args.rate.now;
}
