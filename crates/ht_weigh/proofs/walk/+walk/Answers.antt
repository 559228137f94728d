use Rattle.std.proofs.Common.{rules, ◌-◌, ◌*◌, List, drop, get_or, slice_set}
use Rattle.std.proofs.Common.{w8, w64, SFits, to_z, of_z, to_z-of_z, ap, sym, ◌∙◌, subst, arith, refl}
use Rattle.std.proofs.Math.ListN.{length-set}
use Rattle.ht_pam.specs.Grids.{no_axes}
use Rattle.ht_pam.specs.declared.axes.Axes.{Axes}
use Rattle.ht_sphere.specs.Coordinates.{Real, q_at, i_at, from_i, down}
use Rattle.ht_sphere.proofs.Down.{down_more}
use Rattle.ht_sphere.proofs.Steps.{Step, step, aimed, behind}
use Rattle.ht_sphere.proofs.Walks.{ordered}
use Rattle.ht_weigh.specs.Walks.{IsWalked}
use Rattle.ht_weigh.proofs.Lowered.{within-lowered}
use Rattle.ht_weigh.proofs.Walking.{starts, goes_on, ends, ends_far}
use Rattle.ht_weigh.proofs.walk.+walk.Goals as goal
use Rattle.ht_weigh.proofs.walk.+walk.Goals.{quadrature-After-from-in-Some, in_phase-After-from-in-Some}

-- the whole tree is that of the last open stream
pub walk-returns-else-k-eq1 : goal.walk-returns-else-k-eq1
walk-returns-else-k-eq1 g t c =
    subst (λ (cs : List Real). IsWalked c.args.modulation cs (2 * c.args.k) c.args.partial c.args.levels.now c.args.leasts.now
    c.quadrature.new.levels c.quadrature.new.leasts) (sym (down_more c.args.job.now.system c.args.job.now.grid c.args.k (omega (arith, c.requires.first))))
    c.quadrature.ensures

-- the next level is written
q_step : (g : _) (t : _) (c : quadrature-After-from-in-Some g t)
    → Step (q_at c.args.job.now.system c.args.job.now.grid (c.args.k - 1)) (drop (2 * c.args.k) c.args.levels.now)
    (slice_set c.loop-level.levels (2 * c.from.result - 1) (to_z w8 (of_z w8 c.in-Some.level))) (2 * c.args.k - 1) c.from-in-Some.result c.in-Some.level
q_step g t c =
    let wide : SFits w64 c.remainder_of-left.result.im = search rules in
    let fits : SFits w8 c.in-Some.level = search rules in
    step _ _ c.loop-level.levels _ _ (2 * c.args.k) c.remainder_of-left.result.d _ _ _ _
    (omega (arith, c.loop-level.invariant.size, c.requires.ready.size, c.requires.last, c.requires.first, c.from.ensures))
    (omega (arith, c.from.ensures, c.requires.first)) (omega (arith, c.from.ensures, c.requires.first)) c.loop-level.invariant.chosen
    c.loop-level.invariant.levels (to_z-of_z fits) c.in-Some.ensures.level
    (c.from-in-Some.ensures ∙ c.cost.ensures.value) c.remainder_of-left.ensures.d (to_z-of_z wide ∙ c.remainder_of-left.ensures.im)

i_step : (g : _) (t : _) (c : in_phase-After-from-in-Some g t)
    → Step (i_at c.args.job.now.system c.args.job.now.grid (c.args.k - 1)) (drop (2 * c.args.k - 1) c.args.levels.now)
    (slice_set c.loop-level.levels (2 * c.from.result - 2) (to_z w8 (of_z w8 c.in-Some.level))) (2 * (c.args.k - 1)) c.from-in-Some.result c.in-Some.level
i_step g t c =
    let wide : SFits w64 c.args.target = search rules in
    let fits : SFits w8 c.in-Some.level = search rules in
    step _ _ c.loop-level.levels _ _ (2 * c.args.k - 1) c.args.d _ _ _ _
    (omega (arith, c.loop-level.invariant.size, c.requires.ready.size, c.requires.last, c.requires.first, c.from.ensures))
    (omega (arith, c.from.ensures, c.requires.first)) (omega (arith, c.from.ensures, c.requires.first)) c.loop-level.invariant.chosen
    c.loop-level.invariant.levels (to_z-of_z fits) c.in-Some.ensures.level
    (c.from-in-Some.ensures ∙ c.cost.ensures.value) c.requires.aimed.diagonal (to_z-of_z wide ∙ c.requires.aimed.target)

pub quadrature-loop-level-init : goal.quadrature-loop-level-init
quadrature-loop-level-init g t c =
    let wide : SFits w64 c.remainder_of-left.result.im = search rules in
    record {
      size = refl;
      places = c.requires.ready.places;
      levels = c.requires.ready.levels;
      chosen = refl;
      within = c.requires.ready.within;
      left = starts c.args.modulation (q_at c.args.job.now.system c.args.job.now.grid (c.args.k - 1))
          (from_i c.args.job.now.system c.args.job.now.grid (c.args.k - 1)) _ _ _ _ _
          (ordered (q_at c.args.job.now.system c.args.job.now.grid (c.args.k - 1)) c.q_ladder.result c.from-2.result _ _
          (c.q_ladder.ensures.value ∙ ap (λ (a : List Axes). (get_or a (c.args.k - 1) no_axes).q) c.grid.ensures.grid)
          (c.from-2.ensures ∙ c.remainder_of-left.ensures.d) c.new-order.ensures) (to_z-of_z wide ∙ c.remainder_of-left.ensures.im);
    }

pub quadrature-in_phase-requires : goal.quadrature-in_phase-requires
quadrature-in_phase-requires g t c =
    let next = q_step g t (goal.at.quadrature-in_phase-requires g t c).After-from-in-Some in
    let kept = length-set c.loop-level.levels (2 * c.from.result - 1) (to_z w8 (of_z w8 c.in-Some.level)) in
    let re_wide : SFits w64 c.remainder_of-left.result.re = search rules in
    λ lifetimes lives. (
      omega (arith, c.requires.first),
      (
        search rules,
        (
          c.requires.first,
          (
            c.requires.last,
            (
              record {
                full = c.requires.ready.full;
                size = kept ∙ c.loop-level.invariant.size ∙ c.requires.ready.size;
                levels = next.levels;
                places = c.loop-level.invariant.places;
                within = c.loop-level.invariant.within;
              },
              (
                omega (arith, c.from-in-Some.ensures, c.requires.small, c.cost.ensures.bound),
                aimed (i_at c.args.job.now.system c.args.job.now.grid (c.args.k - 1)) _ _ _ _ _ (to_z-of_z re_wide) next.chosen
                    c.remainder_of-left.ensures.d (c.remainder_of-left.ensures.re c.in-Some.level) c.remainder_of-left.ensures.re_bound,
              ),
            ),
          ),
        ),
      ),
    )

pub quadrature-loop-level-preserved : goal.quadrature-loop-level-preserved
quadrature-loop-level-preserved g t c =
    let next = q_step g t (goal.at.quadrature-loop-level-preserved g t c).After-from-in-Some in
    record {
      size = search (rules, c.in_phase.auto.levels, c.loop-level.invariant.size);
      places = c.in_phase.ensures.lowered.size ∙ c.loop-level.invariant.places;
      levels = c.in_phase.ensures.levels;
      chosen = behind _ _ _ c.in_phase.new.levels _ _ _ _ next (omega (arith, c.requires.first)) c.in_phase.ensures.chosen;
      within = within-lowered _ c.args.clip _ _ c.loop-level.invariant.within c.in_phase.ensures.lowered;
      left = goes_on c.args.modulation _ (from_i c.args.job.now.system c.args.job.now.grid (c.args.k - 1)) _ _ _ _ _ _ _ _ _ _ c.loop-level.invariant.left
          c.in-Some.ensures.next next _ c.in_phase.ensures.lowered;
    }

pub quadrature-returns-then-next-clip : goal.quadrature-returns-then-next-clip
quadrature-returns-then-next-clip g t c = record {
  levels = c.loop-level.invariant.levels;
  chosen = c.loop-level.invariant.chosen;
  lowered = ends_far c.args.modulation _ (from_i c.args.job.now.system c.args.job.now.grid (c.args.k - 1)) _ _ _ _ _ _ _ _ _ _ c.loop-level.invariant.left
      c.in-Some.ensures.next (q_step g t (goal.at.quadrature-returns-then-next-clip g t c).After-from-in-Some) c.args.clip
      c.loop-level.invariant.within c.if-next-clip.true;
}

pub quadrature-returns-in_default : goal.quadrature-returns-in_default
quadrature-returns-in_default g t c = record {
  levels = c.loop-level.invariant.levels;
  chosen = c.loop-level.invariant.chosen;
  lowered = ends c.args.modulation _ (from_i c.args.job.now.system c.args.job.now.grid (c.args.k - 1)) _ _ _ _ _ c.loop-level.invariant.left
      c.in_default.ensures.next.0;
}

pub in_phase-loop-level-init : goal.in_phase-loop-level-init
in_phase-loop-level-init g t c =
    let wide : SFits w64 c.args.target = search rules in
    record {
      size = refl;
      places = c.requires.ready.places;
      levels = c.requires.ready.levels;
      chosen = refl;
      within = c.requires.ready.within;
      left = starts c.args.modulation (i_at c.args.job.now.system c.args.job.now.grid (c.args.k - 1))
          (down c.args.job.now.system c.args.job.now.grid (c.args.k - 1)) _ _ _ _ _
          (ordered (i_at c.args.job.now.system c.args.job.now.grid (c.args.k - 1)) c.i_ladder.result c.from-2.result _ _
          (c.i_ladder.ensures.value ∙ ap (λ (a : List Axes). (get_or a (c.args.k - 1) no_axes).i) c.grid.ensures.grid)
          (c.from-2.ensures ∙ c.requires.aimed.diagonal) c.new-order.ensures) (to_z-of_z wide ∙ c.requires.aimed.target);
    }

pub in_phase-walk-requires : goal.in_phase-walk-requires
in_phase-walk-requires g t c =
    let next = i_step g t (goal.at.in_phase-walk-requires g t c).After-from-in-Some in
    let kept = length-set c.loop-level.levels (2 * c.from.result - 2) (to_z w8 (of_z w8 c.in-Some.level)) in
    λ lifetimes lives. (
      omega (arith, c.requires.first),
      (
        search rules,
        (
          omega (arith, c.requires.first),
          (
            omega (arith, c.requires.last),
            (
              record {
                full = c.requires.ready.full;
                size = kept ∙ c.loop-level.invariant.size ∙ c.requires.ready.size;
                levels = next.levels;
                places = c.loop-level.invariant.places;
                within = c.loop-level.invariant.within;
              },
              omega (arith, c.from-in-Some.ensures, c.requires.small, c.requires.first, c.cost.ensures.bound),
            ),
          ),
        ),
      ),
    )

pub in_phase-loop-level-preserved : goal.in_phase-loop-level-preserved
in_phase-loop-level-preserved g t c =
    let next = i_step g t (goal.at.in_phase-loop-level-preserved g t c).After-from-in-Some in
    record {
      size = search (rules, c.walk.auto.levels, c.loop-level.invariant.size);
      places = c.walk.ensures.lowered.size ∙ c.loop-level.invariant.places;
      levels = c.walk.ensures.levels;
      chosen = behind _ _ _ c.walk.new.levels _ _ _ _ next (omega (arith, c.requires.first)) c.walk.ensures.chosen;
      within = within-lowered _ c.args.clip _ _ c.loop-level.invariant.within c.walk.ensures.lowered;
      left = goes_on c.args.modulation _ (down c.args.job.now.system c.args.job.now.grid (c.args.k - 1)) _ _ _ _ _ _ _ _ _ _ c.loop-level.invariant.left
          c.in-Some.ensures.next next _ c.walk.ensures.lowered;
    }

pub in_phase-returns-then-both-clip : goal.in_phase-returns-then-both-clip
in_phase-returns-then-both-clip g t c = record {
  levels = c.loop-level.invariant.levels;
  chosen = c.loop-level.invariant.chosen;
  lowered = ends_far c.args.modulation _ (down c.args.job.now.system c.args.job.now.grid (c.args.k - 1)) _ _ _ _ _ _ _ _ _ _ c.loop-level.invariant.left
      c.in-Some.ensures.next (i_step g t (goal.at.in_phase-returns-then-both-clip g t c).After-from-in-Some) c.args.clip
      c.loop-level.invariant.within c.if-both-clip.true;
}

pub in_phase-returns : goal.in_phase-returns
in_phase-returns g t c = record {
  levels = c.loop-level.invariant.levels;
  chosen = c.loop-level.invariant.chosen;
  lowered = ends c.args.modulation _ (down c.args.job.now.system c.args.job.now.grid (c.args.k - 1)) _ _ _ _ _ c.loop-level.invariant.left
      c.in_default.ensures.next.0;
}
