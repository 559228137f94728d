use Rattle.std.proofs.Common.{◌≡◌, take}
use Rattle.ht_capture.specs.Taking.{triangles_of}
use Rattle.ht_capture.proofs.reading.triangles.Given as goal

-- this many triangles are there
abbrev pub invariant-loop-seen : goal.invariant-loop-seen
invariant-loop-seen l = l.triangles.items ≡ triangles_of (take l.seen-index l.present)
