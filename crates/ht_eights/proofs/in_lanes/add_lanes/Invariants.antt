use Rattle.std.proofs.Common.{◌+◌, ◌-◌, ◌≤◌}
use Rattle.ht_eights.specs.InLanes.{HasFirst}
use Rattle.ht_eights.proofs.in_lanes.add_lanes.Given as goal

-- the jobs so far were added
abbrev pub invariant-loop-k : goal.invariant-loop-k
invariant-loop-k g l = record {
  within : l.k ≤ 8;
  has : HasFirst g.K.Kind.plan (g.B.Jobs.jobs l.fn.block)
      (l.fn.at + l.k) l.fn.tally.head l.tally.head l.tally.jobs l.tally.data_sum l.tally.pilot_sum l.tally.places l.tally.values.items;
}

abbrev pub decreases-loop-k : goal.decreases-loop-k
decreases-loop-k g l = 8 - l.k
