use Rattle.ht_rate.proofs.CarrierFacts.{carrier_of-in_order}
use Rattle.ht_rate.proofs.laws.in_order.Goals as goal

pub returns : goal.returns
returns c = carrier_of-in_order c.args.rate.now c.args.index c.requires
