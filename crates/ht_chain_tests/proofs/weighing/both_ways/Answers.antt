use Rattle.std.proofs.Common.{◌∙◌, ap}
use Rattle.ht_metric.specs.Jobs.{JobView}
use Rattle.ht_soft.proofs.Cuts.{full-grid}
use Rattle.ht_chain_tests.proofs.weighing.both_ways.Goals as goal

pub weights_of-requires : goal.weights_of-requires
weights_of-requires c = record {
  full = full-grid c.in_ok-rate.rate c.new-job.result.grid c.modulation-modulation.result
      (ap (λ (j : JobView). j.grid) c.new-job.ensures ∙ c.grid-grid.ensures) c.modulation-modulation.ensures;
}

pub weights_of_halves-requires : goal.weights_of_halves-requires
weights_of_halves-requires c = record {
  full = full-grid c.in_ok-rate.rate c.new-job.result.grid c.modulation-modulation.result
      (ap (λ (j : JobView). j.grid) c.new-job.ensures ∙ c.grid-grid.ensures) c.modulation-modulation.ensures;
}
