use Rattle.std.proofs.Common.{◌≡◌, ◌*◌, ◌≤◌, drop, length}
use Rattle.ht_results.specs.JobTexts.{job_lines}
use Rattle.ht_rx.proofs.block_lines.write_lines.Given as goal

-- the lines of the jobs behind those that are left are there, and room for the others
abbrev pub invariant-loop-left : goal.invariant-loop-left
invariant-loop-left g l = record {
  few : l.left ≤ length (g.B.Jobs.jobs l.block);
  within : l.start ≤ length l.into;
  room : 105 * l.left ≤ l.start;
  lines : drop l.start l.into ≡ job_lines (drop l.left (g.B.Jobs.jobs l.block));
}

abbrev pub decreases-loop-left : goal.decreases-loop-left
decreases-loop-left g l = l.left
