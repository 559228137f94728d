use Rattle.std.proofs.Common.{◌∙◌, ap}
use Rattle.ht_metric.specs.Jobs.{JobView}
use Rattle.ht_soft.proofs.Cuts.{full-grid}
use Rattle.ht_chain_tests.proofs.soft.push_least.Goals as goal

pub least-requires-clause-full : goal.least-requires-clause-full
least-requires-clause-full c =
    full-grid c.args.rate.now c.new-job.result.grid c.modulation-modulation.result (ap (λ (j : JobView). j.grid) c.new-job.ensures ∙ c.grid-grid.ensures)
    c.modulation-modulation.ensures
