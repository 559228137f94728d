use Rattle.std.proofs.Common.{arith, ◌∙◌}
use Rattle.ht_rounding.specs.Loading.{no_job}
use Rattle.ht_rounding.proofs.Answered.{element, one-below, one-more}
use Rattle.ht_rounding.proofs.block.find_each.Goals as goal

pub loop-k-preserved : goal.loop-k-preserved
loop-k-preserved g c = record {
  near = one-more c.args.jobs.now c.loop-k.founds c.loop-k.k c.index-jobs-k.result c.find.result c.requires.jobs c.loop-k-test.true c.loop-k.invariant.near
      c.find.ensures.found
      (c.index-jobs-k.is ∙ element c.args.jobs.now c.loop-k.k c.index-jobs-k.result no_job (omega (arith, c.requires.jobs, c.loop-k-test.true)));
  below = one-below c.loop-k.founds c.loop-k.k c.find.result c.loop-k.invariant.near.0 c.loop-k-test.true c.loop-k.invariant.below c.find.ensures.bound;
}
