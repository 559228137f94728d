use Rattle.std.proofs.Common.{◌≡◌, ◌*◌, take}
use Rattle.ht_eights.specs.InLanes.{lane_labels}
use Rattle.ht_eights.proofs.in_lanes.octets_of.Given as goal

-- the labels of the lanes so far
abbrev pub invariant-loop-k : goal.invariant-loop-k
invariant-loop-k l = take (l.k * l.fn.streams) l.octets ≡ lane_labels l.fn.lanes 0 l.k
