use Rattle.std.proofs.Common.{◌≡◌, ◌+◌, ◌*◌, ◌≤◌, ◌++◌, drop, length}
use Rattle.ht_text.specs.Lines.{spaced}
use Rattle.ht_results.specs.JobTexts.{levels_of}
use Rattle.ht_rx.proofs.lines.write_levels.Given as goal

-- the levels of the points behind those that are left
abbrev pub invariant-loop-left : goal.invariant-loop-left
invariant-loop-left l = record {
  few : l.left ≤ length l.vector;
  before : l.at ≤ l.end;
  room : l.end + 10 * l.left ≤ l.at + 10 * length l.vector;
  written : drop l.at l.into ≡ spaced (levels_of (drop l.left l.vector)) ++ drop l.end l.fn.into;
}

abbrev pub decreases-loop-left : goal.decreases-loop-left
decreases-loop-left l = l.left
