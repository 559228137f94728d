use Rattle.std.proofs.Common.{subst}
use Rattle.ht_metric.specs.Jobs.{JobView}
use Rattle.ht_window.specs.Accepting.{Accepts}
use Rattle.ht_window.proofs.window.Window.accept.Goals as goal

pub returns : goal.returns
returns c = subst (λ (job : JobView). Accepts c.args.self.now job c.accept_found.result c.accept_found.new.self) c.job.ensures c.accept_found.ensures
