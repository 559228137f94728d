use Rattle.ht_eights.specs.InLanes.{HasFirst}
use Rattle.ht_eights.proofs.in_lanes.add_each.Given as goal

-- the jobs so far were added
abbrev pub invariant-loop-at : goal.invariant-loop-at
invariant-loop-at g l = HasFirst g.K.Kind.plan
    (g.B.Jobs.jobs l.fn.block) l.at l.fn.tally.head l.tally.head l.tally.jobs l.tally.data_sum l.tally.pilot_sum l.tally.places
    l.tally.values.items
