use Rattle.std.proofs.Common.{List, [], Option, Some, ap, ◌∙◌, sym, subst}
use Rattle.std.specs.Prelude.{unwrap_or}
use Rattle.ht_pam.specs.declared.point.Point.{Point}
use Rattle.ht_metric.specs.Distance.{distance_of}
use Rattle.ht_metric.specs.Vectors.{before, vectors}
use Rattle.ht_metric.specs.Jobs.{JobView, IsNear, found_at}
use Rattle.ht_nearest.proofs.Bests.{best_of_some}
use Rattle.ht_metric.proofs.Finding.{tried, tried_near, vectors_some, found_same}
use Rattle.ht_metric.proofs.nearest.plain_nearest.Goals as goal

pub of-requires-clause-near : goal.of-requires-clause-near
of-requires-clause-near c =
    let job = c.args.job.now in
    let x = c.in-Some.best.vector in
    subst (λ (j : JobView). IsNear j x) (sym c.copy.ensures)
    (tried_near job x (tried job c.grid.result.now c.system.result.now c.new.result
    (Some x) c.grid.ensures.grid c.system.ensures.system c.new.ensures c.in-Some.ensures.found))

pub unreachable-requires : goal.unreachable-requires
unreachable-requires c =
    let job = c.args.job.now in
    best_of_some (distance_of job.system) before (vectors job.grid) (vectors_some job.grid c.grid.ensures.job.grid.ladders)
    (tried job c.grid.result.now c.system.result.now c.new.result _ c.grid.ensures.grid c.system.ensures.system c.new.ensures c.in-None.ensures.found)

pub returns-clause-near : goal.returns-clause-near
returns-clause-near c =
    let job = c.args.job.now in
    let x = c.in-Some.best.vector in
    let e = tried job c.grid.result.now c.system.result.now c.new.result
    (Some x) c.grid.ensures.grid c.system.ensures.system c.new.ensures c.in-Some.ensures.found in
    ap (λ (o : Option (List Point)). found_at job (unwrap_or o [])) e
    ∙ found_same job x c.of.result.vector c.of.result.distance c.in-Some.best.distance c.system.result.now
    c.of.ensures.vector c.of.ensures.distance c.in-Some.ensures.best.distance c.system.ensures.system
