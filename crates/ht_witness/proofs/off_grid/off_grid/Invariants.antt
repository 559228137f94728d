use Rattle.std.proofs.Common.{◌≡◌, ◌+◌, drop}
use Rattle.ht_witness.specs.Certificates.{first_off}
use Rattle.ht_witness.proofs.off_grid.off_grid.Given as goal

-- no stream so far is off the grid
abbrev pub invariant-loop-at : goal.invariant-loop-at
invariant-loop-at l = first_off (l.at + 1) (drop l.at l.grid) (drop l.at l.vector) ≡ first_off 1 l.grid l.vector
