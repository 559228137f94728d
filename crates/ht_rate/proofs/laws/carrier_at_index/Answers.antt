use Rattle.ht_rate.proofs.CarrierFacts.{carrier_of-index_of}
use Rattle.ht_rate.proofs.laws.carrier_at_index.Goals as goal

pub returns : goal.returns
returns c = record {
  within = (carrier_of-index_of c.args.rate.now c.args.carrier c.requires).0;
  there = (carrier_of-index_of c.args.rate.now c.args.carrier c.requires).1;
}
