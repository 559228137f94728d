use Rattle.std.proofs.Common.{rules}
use Rattle.ht_metric.proofs.SameLemmas.{systems_compare}
use Rattle.ht_metric.proofs.system.SystemPartialEq.eq.Goals as goal

pub returns : goal.returns
returns c = search (rules, systems_compare)
