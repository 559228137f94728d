use Rattle.std.proofs.Common.{◌≡◌, ◌*◌, ◌≤◌, length, take}
use Rattle.ht_certify.specs.Making.{records_of_frames}
use Rattle.ht_certify.proofs.putting.count.Given as goal

-- the records of this many frames
abbrev pub invariant-loop-frame : goal.invariant-loop-frame
invariant-loop-frame l = record {
  count : l.records ≡ length (records_of_frames (take l.frame-index l.frames));
  few : l.records ≤ 1129296 * l.frame-index;
}
