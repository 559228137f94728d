use Rattle.std.proofs.Common.{◌≡◌, ◌+◌, ◌*◌, ◌++◌, length, drop, flat_map}
use Rattle.ht_cert.specs.Files.{point_octets}
use Rattle.ht_cert.proofs.writing.add_points.Given as goal

-- this number of points is there, and the others complete them
abbrev pub invariant-loop-stream : goal.invariant-loop-stream
invariant-loop-stream l = record {
  put : l.chunk ++ flat_map point_octets (drop l.stream l.vector) ≡ l.fn.chunk ++ flat_map point_octets l.vector;
  size : length l.chunk ≡ length l.fn.chunk + 2 * l.stream;
}
