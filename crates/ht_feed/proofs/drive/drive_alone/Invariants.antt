use Rattle.std.proofs.Common.{◌≡◌, [], None, false}
use Rattle.ht_feed.specs.Feeds.{IsAlong}
use Rattle.ht_feed.proofs.drive.drive_alone.Given as goal

-- nothing is due between the turns
abbrev pub invariant-loop-block : goal.invariant-loop-block
invariant-loop-block g l = record {
  running : (g.F.BlockFeed.shown l.feed).ended ≡ false;
  none : (g.F.BlockFeed.shown l.feed).due ≡ [];
  count : (g.F.BlockFeed.shown l.feed).count ≡ l.jobs;
  well : (g.F.BlockFeed.shown l.feed).failed ≡ None;
  along : IsAlong (g.F.BlockFeed.shown l.fn.feed).left (g.F.BlockFeed.shown l.feed);
  leads : g.F.BlockFeed.leads l.fn.feed l.feed;
}

abbrev pub decreases-loop-block : goal.decreases-loop-block
decreases-loop-block g l = (g.F.BlockFeed.shown l.feed).more
