use Rattle.std.proofs.Common.{◌+◌, if◌then◌else◌}
use Rattle.ht_drive.specs.Blocks.{seen}
use Rattle.ht_drive.specs.Driving.{IsLeading}
use Rattle.ht_drive.proofs.supply.supply.Given as goal

abbrev pub invariant-loop-running : goal.invariant-loop-running
invariant-loop-running g l =
    let f = g.F.BlockFeed in
    IsLeading f.shown f.leads l.running (seen g.B.Jobs.jobs l.fn.window) (seen g.B.Jobs.jobs l.window) l.fn.caller l.caller l.counts l.fn.feed l.feed

abbrev pub decreases-loop-running : goal.decreases-loop-running
decreases-loop-running g l = if l.running then (g.F.BlockFeed.shown l.feed).more + 1 else 0
