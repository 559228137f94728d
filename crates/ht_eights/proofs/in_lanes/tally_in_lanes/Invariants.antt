use Rattle.std.proofs.Common.{◌*◌}
use Rattle.ht_eights.specs.InLanes.{HasFirst}
use Rattle.ht_eights.proofs.in_lanes.tally_in_lanes.Given as goal

-- the eights so far were added
abbrev pub invariant-loop-eight : goal.invariant-loop-eight
invariant-loop-eight g l = HasFirst g.K.Kind.plan (g.B.Jobs.jobs l.fn.block)
    (8 * l.eight) l.fn.head l.tally.head l.tally.jobs l.tally.data_sum l.tally.pilot_sum l.tally.places l.tally.values.items
