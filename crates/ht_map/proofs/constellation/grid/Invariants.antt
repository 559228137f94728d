use Rattle.std.proofs.Common.{◌≡◌, replicate}
use Rattle.ht_map.proofs.constellation.grid.Given as goal

-- the grid has the streams so far
abbrev pub invariant-loop : goal.invariant-loop
invariant-loop l = l.grid ≡ replicate l.counter l.axes
