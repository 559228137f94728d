use Rattle.std.proofs.Common.{arith, ◌∙◌}
use Rattle.ht_rounding.specs.Loading.{no_job}
use Rattle.ht_rounding.proofs.Answered.{element, one-plain}
use Rattle.ht_rounding.proofs.eight.plain_lanes.Goals as goal

pub loop-k-preserved : goal.loop-k-preserved
loop-k-preserved c =
    let job = c.index-jobs-k.result in
    let k = c.loop-k.k in
    one-plain c.args.i c.args.q c.args.streams c.args.jobs.now c.loop-k.lanes k job c.plainness.result c.loop-k-test.true c.loop-k.invariant
    (c.index-jobs-k.is ∙ element c.args.jobs.now k job no_job (omega (arith, c.requires.jobs, c.loop-k-test.true))) c.plainness.ensures
