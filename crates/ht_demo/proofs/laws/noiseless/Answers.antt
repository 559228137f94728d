use Rattle.ht_demo.proofs.Returning.{noiseless_returns}
use Rattle.ht_demo.proofs.laws.noiseless.Goals as goal

pub returns : goal.returns
returns c = noiseless_returns
