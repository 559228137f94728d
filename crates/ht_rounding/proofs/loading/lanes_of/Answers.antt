use Rattle.std.proofs.Common.{arith, ap, length, sym, ◌∙◌}
use Rattle.ht_metric.specs.Jobs.{JobView}
use Rattle.ht_rounding.specs.Loading.{no_job}
use Rattle.ht_rounding.proofs.Answered.{element}
use Rattle.ht_rounding.proofs.loading.lanes_of.Goals as goal

pub part_of-requires-clause-streams : goal.part_of-requires-clause-streams
part_of-requires-clause-streams c =
    let job = c.index-jobs-k.result in
    let k = c.loop-k.k in
    let is = c.index-jobs-k.is ∙ element c.args.jobs.now k job no_job (omega (arith, c.requires.jobs, c.loop-k-test.true)) in
    sym (c.requires.streams k c.loop-k-test.true) ∙ ap (λ (j : JobView). length j.system) (sym is)
