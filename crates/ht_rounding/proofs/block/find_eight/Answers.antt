use Rattle.std.proofs.Common.{arith, ◌∙◌}
use Rattle.ht_rounding.specs.Loading.{no_job}
use Rattle.ht_rounding.proofs.Answered.{element, one-below, one-more, plain-job}
use Rattle.ht_rounding.proofs.block.find_eight.Goals as goal

pub lane_or_search-requires-clause-certain : goal.lane_or_search-requires-clause-certain
lane_or_search-requires-clause-certain g c valid same some =
    let job = c.index-jobs-k.result in
    let k = c.loop-k.k in
    let is = c.index-jobs-k.is ∙ element c.args.jobs.now k job no_job (omega (arith, c.requires.jobs, c.loop-k-test.true)) in
    plain-job c.args.jobs.now k job _ _ _ c.proposed-found.result is (same ∙ c.full_grid-grid.ensures) valid
    (c.proposed-found.ensures k c.loop-k-test.true some)

pub loop-k-preserved : goal.loop-k-preserved
loop-k-preserved g c = record {
  near = one-more c.args.jobs.now c.loop-k.founds c.loop-k.k c.index-jobs-k.result c.lane_or_search.result c.requires.jobs c.loop-k-test.true
      c.loop-k.invariant.near c.lane_or_search.ensures.found
      (c.index-jobs-k.is ∙ element c.args.jobs.now c.loop-k.k c.index-jobs-k.result no_job (omega (arith, c.requires.jobs, c.loop-k-test.true)));
  below = one-below c.loop-k.founds c.loop-k.k c.lane_or_search.result c.loop-k.invariant.near.0 c.loop-k-test.true c.loop-k.invariant.below
      c.lane_or_search.ensures.below;
}
