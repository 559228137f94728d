use Rattle.ht_drive.specs.Blocks.{seen}
use Rattle.ht_drive.specs.Driving.{IsLeading}
use Rattle.ht_drive.proofs.lead.lead.Given as goal

abbrev pub invariant-loop : goal.invariant-loop
invariant-loop g l =
    let f = g.F.BlockFeed in
    IsLeading f.shown f.leads l.running (seen g.B.Jobs.jobs l.fn.window) (seen g.B.Jobs.jobs l.window) l.fn.caller l.caller l.counts l.fn.feed l.feed
