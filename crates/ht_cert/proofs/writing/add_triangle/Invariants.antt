use Rattle.std.proofs.Common.{◌≡◌, ◌≤◌, ◌+◌, ◌*◌, ◌++◌, length, drop}
use Rattle.ht_metric.specs.Arrays.{legs}
use Rattle.ht_capture.specs.Files.{legs_octets}
use Rattle.ht_cert.proofs.writing.add_triangle.Given as goal

-- this number of rows is there, and the others complete the triangle
abbrev pub invariant-loop-row : goal.invariant-loop-row
invariant-loop-row l = record {
  put : l.chunk ++ legs_octets (legs (drop l.row l.system)) ≡ l.fn.chunk ++ legs_octets (legs l.system);
  size : length l.chunk ≤ length l.fn.chunk + 14 * l.row;
}
