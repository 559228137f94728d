use Rattle.std.proofs.Common.{List}
use Rattle.ht_lanes.specs.Lanes.{AllLead, sides_of}
use Rattle.ht_lanes.proofs.Finished.{FinishedTo}
use Rattle.ht_lanes.proofs.finishing.finish_lanes.Given as goal

-- the first lanes are finished
abbrev pub invariant-loop-at : goal.invariant-loop-at
invariant-loop-at g l =
    let lane = g.L.Lane in
    record {
      so : FinishedTo lane.due lane.rests lane.over lane.finished l.fn.lanes l.lanes l.at;
      leads : (sources : List g.row.S.Denot) → AllLead lane.leads (sides_of l.fn.lanes sources l.fn.sinks) (sides_of l.lanes sources l.sinks);
    }
