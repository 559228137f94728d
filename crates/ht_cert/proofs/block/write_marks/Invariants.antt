use Rattle.std.proofs.Common.{◌≡◌, length, map, take}
use Rattle.ht_cert.specs.Files.{mark_octet}
use Rattle.ht_cert.proofs.block.write_marks.Given as goal

-- this number of marks is there
abbrev pub invariant-loop-k : goal.invariant-loop-k
invariant-loop-k l = record {
  octets : take l.k l.into ≡ map mark_octet (take l.k l.marks);
  places : length l.into ≡ length l.marks;
}
