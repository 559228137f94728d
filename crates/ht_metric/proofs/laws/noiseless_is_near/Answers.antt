use Rattle.ht_metric.proofs.Noiseless.{noiseless_near, noiseless_found}
use Rattle.ht_metric.proofs.laws.noiseless_is_near.Goals as goal

pub returns-clause-near : goal.returns-clause-near
returns-clause-near c = noiseless_near

pub returns-clause-found : goal.returns-clause-found
returns-clause-found c = noiseless_found
