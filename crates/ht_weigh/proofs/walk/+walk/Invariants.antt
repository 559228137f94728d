use Rattle.std.proofs.Common.{length, ◌≡◌, ◌-◌, ◌*◌, ◌≤◌, drop, unsigned_abs}
use Rattle.std.specs.List.{All}
use Rattle.ht_sphere.specs.Coordinates.{q_at, i_at, from_i, down}
use Rattle.ht_weigh.specs.Leasts.{AreWithin}
use Rattle.ht_weigh.proofs.Walking.{IsLeft}
use Rattle.ht_weigh.proofs.walk.+walk.Given as goal

abbrev pub decreases-walk : goal.decreases-walk
decreases-walk g l = 3 * l.k

abbrev pub decreases-quadrature : goal.decreases-quadrature
decreases-quadrature g l = 3 * l.k - 1

abbrev pub decreases-in_phase : goal.decreases-in_phase
decreases-in_phase g l = 3 * l.k - 2

abbrev pub invariant-quadrature-loop-level : goal.invariant-quadrature-loop-level
invariant-quadrature-loop-level g l = record {
  size : length l.levels ≡ length l.fn.levels;
  places : length l.leasts ≡ 48;
  levels : All (λ x. unsigned_abs x ≤ 7) l.levels;
  chosen : drop (2 * l.fn.k) l.levels ≡ drop (2 * l.fn.k) l.fn.levels;
  within : AreWithin l.fn.clip l.leasts;
  left : IsLeft l.fn.modulation (q_at l.fn.job.system l.fn.job.grid (l.fn.k - 1)) (from_i l.fn.job.system l.fn.job.grid (l.fn.k - 1))
      (drop (2 * l.fn.k) l.fn.levels) l.fn.partial l.order l.fn.leasts l.leasts;
}

abbrev pub decreases-quadrature-loop-level : goal.decreases-quadrature-loop-level
decreases-quadrature-loop-level g l = length l.order

abbrev pub invariant-in_phase-loop-level : goal.invariant-in_phase-loop-level
invariant-in_phase-loop-level g l = record {
  size : length l.levels ≡ length l.fn.levels;
  places : length l.leasts ≡ 48;
  levels : All (λ x. unsigned_abs x ≤ 7) l.levels;
  chosen : drop (2 * l.fn.k - 1) l.levels ≡ drop (2 * l.fn.k - 1) l.fn.levels;
  within : AreWithin l.fn.clip l.leasts;
  left : IsLeft l.fn.modulation (i_at l.fn.job.system l.fn.job.grid (l.fn.k - 1)) (down l.fn.job.system l.fn.job.grid (l.fn.k - 1))
      (drop (2 * l.fn.k - 1) l.fn.levels) l.fn.partial l.order l.fn.leasts l.leasts;
}

abbrev pub decreases-in_phase-loop-level : goal.decreases-in_phase-loop-level
decreases-in_phase-loop-level g l = length l.order
