use Rattle.ht_metric.proofs.Finding.{is_near}
use Rattle.ht_metric.proofs.laws.is_near.Goals as goal

pub returns : goal.returns
returns c = is_near
