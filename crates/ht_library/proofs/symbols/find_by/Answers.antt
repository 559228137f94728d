use Rattle.std.proofs.Common.{ap, ◌∙◌}
use Rattle.ht_metric.specs.Jobs.{near}
use Rattle.ht_library.proofs.symbols.find_by.Goals as goal

pub returns-clause-found : goal.returns-clause-found
returns-clause-found g c = λ k lt. c.find_eight.ensures.near k lt ∙ ap near (c.eight_jobs-jobs.ensures k lt)
