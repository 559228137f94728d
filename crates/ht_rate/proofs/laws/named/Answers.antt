use Rattle.ht_rate.proofs.Numbers.{rate_of-named}
use Rattle.ht_rate.proofs.laws.named.Goals as goal

pub returns : goal.returns
returns c = rate_of-named c.args.rate.now
