use Rattle.ht_clause18.proofs.CarrierFacts.{carrier_of-frequency}
use Rattle.ht_clause18.proofs.laws.frequencies.Goals as goal

pub returns : goal.returns
returns c = carrier_of-frequency
