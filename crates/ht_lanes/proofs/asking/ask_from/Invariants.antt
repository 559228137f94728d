use Rattle.std.proofs.Common.{◌≡◌, ◌≤◌, ◌<◌, ℕ, List, true, get_or}
use Rattle.ht_lanes.specs.Lanes.{AllLead, HaveFewDue, SameBooks, sides_of}
use Rattle.ht_lanes.proofs.asking.ask_from.Given as goal

-- the lanes asked so far are over
abbrev pub invariant-loop-at : goal.invariant-loop-at
invariant-loop-at g l =
    let lane = g.L.Lane in
    record {
      same : SameBooks lane.due lane.rests l.fn.lanes l.lanes;
      few_due : HaveFewDue lane.due lane.over l.most l.lanes;
      over : (x : g.row.L.Denot) (k : ℕ) → l.from ≤ k → k < l.at → lane.over (get_or l.lanes k x) ≡ true;
      leads : (sinks : List g.row.K.Denot) → AllLead lane.leads (sides_of l.fn.lanes l.fn.sources sinks) (sides_of l.lanes l.sources sinks);
    }
