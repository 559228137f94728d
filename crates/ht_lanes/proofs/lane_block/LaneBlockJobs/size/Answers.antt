use Rattle.std.proofs.Common.{◌∙◌, arith}
use Rattle.ht_lanes.proofs.Numbering.{as_many_jobs}
use Rattle.ht_lanes.proofs.lane_block.LaneBlockJobs.size.Goals as goal

pub size-requires : goal.size-requires
size-requires g c = omega (arith, as_many_jobs _ c.args.self.now c.self.view_is, c.requires)

pub returns : goal.returns
returns g c = c.size.ensures ∙ as_many_jobs _ c.args.self.now c.self.view_is
