use Rattle.std.proofs.Common.{length, ◌≡◌, ◌-◌, ◌*◌, ◌++◌, List, map, drop}
use Rattle.ht_sphere.specs.Coordinates.{q_at, i_at, from_q, from_i, down}
use Rattle.ht_witness.specs.Walks.{AreChosen, Suffix, below, longer}
use Rattle.ht_witness.proofs.walk.+walk.Given as goal

abbrev pub decreases-quadrature : goal.decreases-quadrature
decreases-quadrature g l = 2 * l.k

abbrev pub decreases-in_phase : goal.decreases-in_phase
decreases-in_phase g l = 2 * l.k - 1

-- the walk so far is to go on with the levels that are left
abbrev pub invariant-quadrature-loop-level : goal.invariant-quadrature-loop-level
invariant-quadrature-loop-level g l = record {
  levels : AreChosen (2 * l.fn.k) l.fn.levels l.levels;
  goes : (rest : List Suffix)
      → g.V.Visitor.outcome l.fn.visitor l.fn.state
      (below (from_q l.fn.job.system l.fn.job.grid (l.fn.k - 1)) (drop (2 * l.fn.k) l.fn.levels) l.fn.partial ++ rest)
      ≡ g.V.Visitor.outcome l.fn.visitor l.state
      (map (longer (q_at l.fn.job.system l.fn.job.grid (l.fn.k - 1)) (from_i l.fn.job.system l.fn.job.grid (l.fn.k - 1))
      (drop (2 * l.fn.k) l.fn.levels) l.fn.partial) l.walk ++ rest);
}

abbrev pub decreases-quadrature-loop-level : goal.decreases-quadrature-loop-level
decreases-quadrature-loop-level g l = length l.walk

abbrev pub invariant-in_phase-loop-level : goal.invariant-in_phase-loop-level
invariant-in_phase-loop-level g l = record {
  levels : AreChosen (2 * l.fn.k - 1) l.fn.levels l.levels;
  goes : (rest : List Suffix)
      → g.V.Visitor.outcome l.fn.visitor l.fn.state
      (below (from_i l.fn.job.system l.fn.job.grid (l.fn.k - 1)) (drop (2 * l.fn.k - 1) l.fn.levels) l.fn.partial ++ rest)
      ≡ g.V.Visitor.outcome l.fn.visitor l.state
      (map (longer (i_at l.fn.job.system l.fn.job.grid (l.fn.k - 1)) (down l.fn.job.system l.fn.job.grid (l.fn.k - 1))
      (drop (2 * l.fn.k - 1) l.fn.levels) l.fn.partial) l.walk ++ rest);
}

abbrev pub decreases-in_phase-loop-level : goal.decreases-in_phase-loop-level
decreases-in_phase-loop-level g l = length l.walk
