use Rattle.std.proofs.Common.{subst}
use Rattle.ht_feed.specs.Dues.{StartsAt}
use Rattle.ht_lanes.specs.Lanes.{LaneJobs, whole_jobs}
use Rattle.ht_lanes.proofs.Numbering.{starts_at}
use Rattle.ht_lanes.proofs.lane_block.LaneBlockJobs.place.Goals as goal

pub place-requires : goal.place-requires
place-requires g c = c.self.invariant.some

pub returns : goal.returns
returns g c =
    subst (λ (b : LaneJobs). StartsAt c.place.result (whole_jobs b)) c.self.view_is
    (starts_at c.self.inside.first c.place.result (g.B.Jobs.jobs c.self.inside.block) c.place.ensures)
