use Rattle.std.proofs.Common.{◌≡◌, ◌++◌, drop}
use Rattle.ht_capture.specs.Files.{legs_octets}
use Rattle.ht_capture.proofs.writing.add_triangle.Given as goal

-- this many rows are there, and the others complete the triangle
abbrev pub invariant-loop-row : goal.invariant-loop-row
invariant-loop-row l = l.chunk ++ legs_octets (drop l.row l.triangle) ≡ l.fn.chunk ++ legs_octets l.triangle
