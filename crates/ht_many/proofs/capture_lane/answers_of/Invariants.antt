-- The answers so far are those of the first lanes.
use Rattle.std.proofs.Common.{◌≡◌, map, take}
use Rattle.ht_many.specs.CaptureLanes.{lane_answer}
use Rattle.ht_many.proofs.capture_lane.answers_of.Given as goal

abbrev pub invariant-loop-lane : goal.invariant-loop-lane
invariant-loop-lane g l = l.answers.items ≡ map lane_answer (take l.lane-index l.lanes)
