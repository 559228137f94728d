-- One lane was made in each turn so far, and all are new.
use Rattle.ht_many.specs.CaptureLanes.{AreNewLanes}
use Rattle.ht_many.proofs.capture_lane.open_lanes.Given as goal

abbrev pub invariant-loop-index : goal.invariant-loop-index
invariant-loop-index l = AreNewLanes l._index l.lanes.items
