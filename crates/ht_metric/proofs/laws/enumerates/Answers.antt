use Rattle.ht_metric.proofs.Enumerating.{vectors_enumerate}
use Rattle.ht_metric.proofs.laws.enumerates.Goals as goal

pub returns : goal.returns
returns c = vectors_enumerate
