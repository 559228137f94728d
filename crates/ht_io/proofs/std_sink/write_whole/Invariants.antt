use Rattle.std.proofs.Common.{◌+◌, ◌-◌, ◌≤◌, length, take}
use Rattle.std.specs.Io.KnownBytes.{Appends}
use Rattle.ht_io.proofs.std_sink.write_whole.Given as goal

-- the front of the piece was written, and no more calls were tried again than may be
abbrev pub invariant-loop-done : goal.invariant-loop-done
invariant-loop-done g l = record {
  retried : l.retried ≤ 1000;
  within : l.done ≤ length l.piece;
  written : Appends (g.W.Write.contents l.fn.inner) (g.W.Write.contents l.inner) (take l.done l.piece);
}

-- the octets left and the calls that may still be tried again
abbrev pub decreases-loop-done : goal.decreases-loop-done
decreases-loop-done g l = (length l.piece - l.done) + (1000 - l.retried)
