use Rattle.std.proofs.Common.{◌+◌, slice_get, subst, unwrap_or, arith}
use Rattle.ht_map.specs.Gray.{label_of}
use Rattle.ht_rounding.specs.Labels.{IsLabelledIn}
use Rattle.ht_lanes.specs.Lanes.{LaneJobs, whole_jobs}
use Rattle.ht_lanes.proofs.Numbering.{as_many_jobs, labelled_at}
use Rattle.ht_lanes.proofs.lane_block.LaneBlockInLanes.labels.Goals as goal

pub labels-requires : goal.labels-requires
labels-requires g c = omega (arith, as_many_jobs _ c.args.self.now c.self.view_is, c.requires)

pub returns-clause-labels : goal.returns-clause-labels
returns-clause-labels g c = λ k small.
    subst (λ (b : LaneJobs).
    IsLabelledIn (λ p. unwrap_or (label_of c.args.modulation p) 0) c.labels.result k (slice_get (whole_jobs b) (c.args.at + k))) c.self.view_is
    (labelled_at (λ p. unwrap_or (label_of c.args.modulation p) 0) c.labels.result k c.self.inside.first (g.B.Jobs.jobs c.self.inside.block) (c.args.at + k)
    (c.labels.ensures.labels k small))
