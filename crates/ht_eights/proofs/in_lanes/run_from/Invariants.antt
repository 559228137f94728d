use Rattle.std.proofs.Common.{◌+◌, ◌-◌, ◌*◌, ◌^◌, ◌≤◌}
use Rattle.std.specs.List.{range_with_len}
use Rattle.ht_frames.specs.Tallies.{IsTally}
use Rattle.ht_results.specs.Plans.{place_by}
use Rattle.ht_eights.specs.InLanes.{jobs_behind, lane_labels}
use Rattle.ht_eights.proofs.in_lanes.run_from.Given as goal

-- the run so far
abbrev pub invariant-loop-k : goal.invariant-loop-k
invariant-loop-k g l =
    let jobs = l.k - l.fn.first in
    let labels = lane_labels l.fn.lanes l.fn.first jobs in
    record {
      few : l.distance ≤ jobs * 2 ^ 32;
      is : IsTally g.K.Kind.plan l.fn.head (jobs_behind (g.B.Jobs.jobs l.fn.block) (l.fn.at + l.fn.first) jobs) jobs l.distance 0
          (range_with_len (place_by g.K.Kind.plan l.fn.head l.start.symbol l.m) (jobs * l.fn.lanes.streams)) labels;
    }
