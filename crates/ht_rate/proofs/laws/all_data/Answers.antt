use Rattle.ht_rate.proofs.CarrierFacts.{data_before-all}
use Rattle.ht_rate.proofs.laws.all_data.Goals as goal

pub returns : goal.returns
returns c = data_before-all c.args.rate.now
