use Rattle.ht_metric.proofs.Finding.{near_is}
use Rattle.ht_metric.proofs.laws.near_is.Goals as goal

pub returns : goal.returns
returns c = near_is
