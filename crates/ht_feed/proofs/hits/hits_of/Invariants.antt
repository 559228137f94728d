use Rattle.std.proofs.Common.{◌≡◌, ◌≤◌, map, take, vec_len, vec_capacity}
use Rattle.ht_metric.specs.Jobs.{near}
use Rattle.ht_feed.specs.Dues.{AreBounded}
use Rattle.ht_feed.proofs.hits.hits_of.Given as goal

-- the hits of this many jobs are there
abbrev pub invariant-loop-at : goal.invariant-loop-at
invariant-loop-at g l = record {
  count : vec_len l.found ≡ l.at;
  room : l.size ≤ vec_capacity l.found;
  are : l.found.items ≡ map near (take l.at (g.B.Jobs.jobs l.fn.block));
  below : AreBounded l.found.items;
}
