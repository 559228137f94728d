use Rattle.std.proofs.Common.{◌≡◌, ◌-◌, take, set}
use Rattle.ht_soft.proofs.halves.changed.Given as goal

-- the grid has the streams so far
abbrev pub invariant-loop-done : goal.invariant-loop-done
invariant-loop-done l = l.changed ≡ take l.done (set l.grid (l.stream - 1) l.axes)
