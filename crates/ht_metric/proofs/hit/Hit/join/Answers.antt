use Rattle.std.proofs.Common.{sym, subst}
use Rattle.ht_metric.specs.declared.found.Found.{Found}
use Rattle.ht_metric.specs.Jobs.{IsNear}
use Rattle.ht_metric.proofs.Finding.{is_near}
use Rattle.ht_metric.proofs.hit.Hit.join.Goals as goal

pub of-requires-clause-near : goal.of-requires-clause-near
of-requires-clause-near c =
    let job = c.args.job in
    subst (λ (f : Found). IsNear job f.vector) (sym c.requires.found) (is_near job c.grid-grid.ensures.job.grid)
