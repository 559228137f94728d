use Rattle.ht_rate.proofs.RateFacts.{data_bits_of-whole}
use Rattle.ht_rate.proofs.laws.whole.Goals as goal

pub returns : goal.returns
returns c = data_bits_of-whole c.args.rate.now
