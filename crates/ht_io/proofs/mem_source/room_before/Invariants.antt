use Rattle.std.proofs.Common.{◌<◌, ◌≤◌, take}
use Rattle.ht_io.specs.Reading.{PassesNone, IsFull}
use Rattle.ht_io.proofs.mem_source.room_before.Given as goal

-- no stop so far lies within what may be read
abbrev pub invariant-loop-stop : goal.invariant-loop-stop
invariant-loop-stop l = record {
  some : 0 < l.most;
  within : l.most ≤ l.fn.room;
  passes_none : PassesNone (take l.stop-index l.stops) l.at l.most;
  full : IsFull (take l.stop-index l.stops) l.at l.fn.room l.most;
}
