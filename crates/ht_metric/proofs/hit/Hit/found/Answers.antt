use Rattle.ht_metric.proofs.Finding.{found_near}
use Rattle.ht_metric.proofs.hit.Hit.found.Goals as goal

pub returns : goal.returns
returns c = found_near c.args.self.now
