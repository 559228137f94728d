use Rattle.std.proofs.Common.{◌*◌, ◌≤◌, length}
use Rattle.ht_capture.specs.Parts.{jobs_of}
use Rattle.ht_rx.specs.LaneLines.{AreLines}
use Rattle.ht_rx.proofs.lane_lines.write_in_lanes.Given as goal

-- the lines of the jobs behind those that are left are there, and room for the others
abbrev pub invariant-loop-left : goal.invariant-loop-left
invariant-loop-left l = record {
  few : l.left ≤ length (jobs_of l.block.block);
  within : l.start ≤ length l.into;
  room : 105 * l.left ≤ l.start;
  lines : AreLines l.block.block l.left l.start l.into;
}

abbrev pub decreases-loop-left : goal.decreases-loop-left
decreases-loop-left l = l.left
