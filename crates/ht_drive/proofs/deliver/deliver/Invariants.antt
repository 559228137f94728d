use Rattle.std.proofs.Common.{◌≡◌, length}
use Rattle.ht_drive.specs.Blocks.{seen}
use Rattle.ht_drive.specs.Driving.{Holds, KeepsTurn, OnlyTakes}
use Rattle.ht_drive.proofs.deliver.deliver.Given as goal

abbrev pub invariant-loop-block : goal.invariant-loop-block
invariant-loop-block g l = record {
  holds : Holds (seen g.B.Jobs.jobs l.window) (g.F.BlockFeed.shown l.feed);
  capacity : l.window.capacity ≡ l.fn.window.capacity;
  takes : OnlyTakes (g.F.BlockFeed.shown l.fn.feed) (g.F.BlockFeed.shown l.feed);
  turn : KeepsTurn (g.F.BlockFeed.shown l.fn.feed) (g.F.BlockFeed.shown l.feed);
  leads : g.F.BlockFeed.leads l.fn.feed l.feed;
}

abbrev pub decreases-loop-block : goal.decreases-loop-block
decreases-loop-block g l = length l.window.slots
