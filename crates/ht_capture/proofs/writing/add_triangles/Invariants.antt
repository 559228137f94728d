use Rattle.std.proofs.Common.{◌≡◌, ◌≤◌, ◌+◌, ◌*◌, ◌++◌, length, take, flat_map}
use Rattle.ht_capture.specs.Files.{legs_octets}
use Rattle.ht_capture.proofs.writing.add_triangles.Given as goal

-- this many triangles are there
abbrev pub invariant-loop-triangle : goal.invariant-loop-triangle
invariant-loop-triangle l = record {
  put : l.chunk ≡ l.fn.chunk ++ flat_map legs_octets (take l.triangle-index l.triangles);
  size : length l.chunk ≤ length l.fn.chunk + 32 * l.triangle-index;
}
