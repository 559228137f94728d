use Rattle.std.proofs.Common.{◌≡◌, ◌+◌, Some, slice_get, ap, ◌∙◌, subst, arith}
use Rattle.ht_metric.specs.Jobs.{JobView}
use Rattle.ht_lanes.specs.Lanes.{LaneJobs, whole_jobs}
use Rattle.ht_feed.specs.Numbers.{with_number}
use Rattle.ht_feed.proofs.Numbering.{remade}
use Rattle.ht_lanes.proofs.Numbering.{as_many_jobs, job_at}
use Rattle.ht_lanes.proofs.lane_block.LaneBlockJobs.job.Goals as goal

pub job-job-requires : goal.job-job-requires
job-job-requires g c =
    omega (arith, as_many_jobs _ c.args.self.now c.self.view_is, c.requires)

pub overflow_add-self-inside : goal.overflow_add-self-inside
overflow_add-self-inside g c =
    omega (arith, as_many_jobs _ c.args.self.now c.self.view_is, c.requires, c.self.invariant.bound, c.from.ensures)

pub returns : goal.returns
returns g c =
    let number = c.self.inside.first + c.from.result in
    let job : JobView = c.job-job.result in
    let is : c.new.result ≡ with_number number job =
    c.new.ensures ∙ remade job number _ _ _ c.place.ensures c.grid.ensures.grid c.system.ensures.system in
    subst (λ (b : LaneJobs). Some c.new.result ≡ slice_get (whole_jobs b) c.args.at) c.self.view_is
    (ap (λ (j : JobView). Some j) is
    ∙ job_at c.self.inside.first (g.B.Jobs.jobs c.self.inside.block) c.args.at number job c.job-job.ensures
    (ap (λ n. c.self.inside.first + n) c.from.ensures))
