use Rattle.std.proofs.Common.{subst, arith}
use Rattle.ht_feed.specs.Dues.{IsPlaceAt}
use Rattle.ht_lanes.specs.Lanes.{LaneJobs, whole_jobs}
use Rattle.ht_lanes.proofs.Numbering.{as_many_jobs, place_at}
use Rattle.ht_lanes.proofs.lane_block.LaneBlockJobs.place_at.Goals as goal

pub place_at-requires : goal.place_at-requires
place_at-requires g c =
    omega (arith, as_many_jobs _ c.args.self.now c.self.view_is, c.requires)

pub returns : goal.returns
returns g c =
    subst (λ (b : LaneJobs). IsPlaceAt c.place_at.result (whole_jobs b) c.args.at) c.self.view_is
    (place_at c.self.inside.first c.place_at.result (g.B.Jobs.jobs c.self.inside.block) c.args.at c.place_at.ensures)
