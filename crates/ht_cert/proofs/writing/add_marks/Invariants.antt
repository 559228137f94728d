use Rattle.std.proofs.Common.{◌≡◌, ◌+◌, ◌++◌, length, take, map}
use Rattle.ht_cert.specs.Files.{mark_octet}
use Rattle.ht_cert.proofs.writing.add_marks.Given as goal

-- this number of marks is there
abbrev pub invariant-loop-mark : goal.invariant-loop-mark
invariant-loop-mark l = record {
  put : l.chunk ≡ l.fn.chunk ++ map mark_octet (take l.mark-index l.marks);
  size : length l.chunk ≡ length l.fn.chunk + l.mark-index;
}
