use Rattle.std.proofs.Common.{◌≡◌, ◌-◌, length}
use Rattle.ht_clause18.specs.Carriers.{carriers}
use Rattle.ht_sim.specs.Draws.{joined, several}
use Rattle.ht_legacy_sim.specs.Drawing.{diagonal_drawn}
use Rattle.ht_legacy_sim.proofs.drawing.diagonals.Given as goal

-- the diagonals so far and those that are left are all diagonals
abbrev pub invariant-loop-carrier : goal.invariant-loop-carrier
invariant-loop-carrier l = record {
  drawn : joined l.diagonals.items (several diagonal_drawn (carriers - l._carrier) l.words) ≡ several diagonal_drawn carriers l.fn.words;
  count : length l.diagonals.items ≡ l._carrier;
}
