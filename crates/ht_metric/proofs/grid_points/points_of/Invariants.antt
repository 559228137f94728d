use Rattle.std.proofs.Common.{◌≡◌, ◌++◌, ◌<◌, take, map, length, get_or, pos}
use Rattle.std.specs.List.{flat_map}
use Rattle.ht_metric.proofs.Listing.{at, row}
use Rattle.ht_metric.proofs.grid_points.points_of.Given as goal

-- the points of the first I
abbrev pub invariant-loop-i : goal.invariant-loop-i
invariant-loop-i l = l.points.items ≡ flat_map (row l.qs.items) (take l.i-index l.i-items)

-- and those of this I with the first Q
abbrev pub invariant-loop-q : goal.invariant-loop-q
invariant-loop-q l = record {
  items : l.points.items ≡ flat_map (row l.q-items) (take l.i-index l.i-items) ++ map (at (get_or l.i-items l.i-index (pos 0))) (take l.q-index l.q-items);
  below : l.i-index < length l.i-items;
}
