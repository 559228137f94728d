use Rattle.std.proofs.Common.{◌+◌, ◌*◌, ◌≤◌}
use Rattle.ht_rx.specs.LaneLines.{AreLines}
use Rattle.ht_rx.proofs.lane_lines.write_eight.Given as goal

-- the lines of the jobs behind those that are left are there, and room for the others
abbrev pub invariant-loop-left : goal.invariant-loop-left
invariant-loop-left l = record {
  few : l.left ≤ l.count;
  before : l.start ≤ l.end;
  room : 105 * l.left ≤ l.start;
  near : l.end + 105 * l.left ≤ l.start + 105 * l.count;
  lines : AreLines l.block.block (l.at + l.left) l.start l.into;
}

abbrev pub decreases-loop-left : goal.decreases-loop-left
decreases-loop-left l = l.left
