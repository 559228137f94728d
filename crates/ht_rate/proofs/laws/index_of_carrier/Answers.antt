use Rattle.ht_rate.proofs.CarrierFacts.{index_of-carrier_of}
use Rattle.ht_rate.proofs.laws.index_of_carrier.Goals as goal

pub returns : goal.returns
returns c = index_of-carrier_of c.args.rate.now c.args.index c.requires
