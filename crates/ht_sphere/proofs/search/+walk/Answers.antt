use Rattle.std.proofs.Common.{rules, ◌+◌, ◌-◌, ◌*◌, ◌^◌, ℕ, List, drop, get_or, slice_set}
use Rattle.std.proofs.Common.{w8, w64, SFits, to_z, of_z, to_z-of_z, ap, sym, ◌∙◌, subst, arith, refl}
use Rattle.std.proofs.Math.ListN.{length-set}
use Rattle.ht_pam.specs.Grids.{no_axes}
use Rattle.ht_pam.specs.declared.axes.Axes.{Axes}
use Rattle.ht_metric.proofs.Signs.{passed_within}
use Rattle.ht_sphere.specs.Coordinates.{Real, q_at, i_at, from_i, down}
use Rattle.ht_sphere.specs.Searching.{IsSearched}
use Rattle.ht_sphere.proofs.Down.{down_more}
use Rattle.ht_sphere.proofs.Steps.{Step, step, aimed, behind}
use Rattle.ht_sphere.proofs.Walks.{starts, ordered, goes_on, ends, ends_far, whole}
use Rattle.ht_sphere.proofs.search.+walk.Goals as goal
use Rattle.ht_sphere.proofs.search.+walk.Goals.{quadrature-After-from-in-Some, in_phase-After-from-in-Some}

pub search-returns-then-k-eq0 : goal.search-returns-then-k-eq0
search-returns-then-k-eq0 g t c =
    subst (λ (k : ℕ). IsSearched (down c.args.job.now.system c.args.job.now.grid k) (2 * k) c.args.partial c.args.levels.now
    (c.args.best.now, c.args.distance.now) c.args.steps.now c.args.levels.now (c.settle.new.best, c.settle.new.distance) c.args.steps.now)
    (sym c.if-k-eq0.true) (whole _ _ _ _ _ c.requires.size.levels c.settle.ensures.best c.settle.ensures.less)

-- the whole tree is that of the last open stream
pub search-returns-else-k-eq0 : goal.search-returns-else-k-eq0
search-returns-else-k-eq0 g t c =
    subst (λ (cs : List Real). IsSearched cs (2 * c.args.k) c.args.partial c.args.levels.now (c.args.best.now, c.args.distance.now) c.args.steps.now
    c.quadrature.new.levels (c.quadrature.new.best, c.quadrature.new.distance) c.quadrature.new.steps)
    (sym (down_more c.args.job.now.system c.args.job.now.grid c.args.k (omega arith))) c.quadrature.ensures

-- the next level is written
q_step : (g : _) (t : _) (c : quadrature-After-from-in-Some g t)
    → Step (q_at c.args.job.now.system c.args.job.now.grid (c.args.k - 1)) (drop (2 * c.args.k) c.args.levels.now)
    (slice_set c.loop-level.levels (2 * c.from.result - 1) (to_z w8 (of_z w8 c.in-Some.level))) (2 * c.args.k - 1) c.from-in-Some.result c.in-Some.level
q_step g t c =
    let wide : SFits w64 c.remainder_of-left.result.im = search rules in
    let fits : SFits w8 c.in-Some.level = search rules in
    step _ _ c.loop-level.levels _ _ (2 * c.args.k) c.remainder_of-left.result.d _ _ _ _
    (omega (arith, c.loop-level.invariant.size, c.requires.size.size, c.requires.last, c.from.ensures)) (omega (arith, c.from.ensures))
    (omega (arith, c.from.ensures)) c.loop-level.invariant.chosen c.loop-level.invariant.levels (to_z-of_z fits) c.in-Some.ensures.level
    (c.from-in-Some.ensures ∙ c.cost.ensures.value) c.remainder_of-left.ensures.d (to_z-of_z wide ∙ c.remainder_of-left.ensures.im)

i_step : (g : _) (t : _) (c : in_phase-After-from-in-Some g t)
    → Step (i_at c.args.job.now.system c.args.job.now.grid (c.args.k - 1)) (drop (2 * c.args.k - 1) c.args.levels.now)
    (slice_set c.loop-level.levels (2 * c.from.result - 2) (to_z w8 (of_z w8 c.in-Some.level))) (2 * (c.args.k - 1)) c.from-in-Some.result c.in-Some.level
i_step g t c =
    let wide : SFits w64 c.args.target = search rules in
    let fits : SFits w8 c.in-Some.level = search rules in
    step _ _ c.loop-level.levels _ _ (2 * c.args.k - 1) c.args.d _ _ _ _
    (omega (arith, c.loop-level.invariant.size, c.requires.size.size, c.requires.last, c.from.ensures)) (omega (arith, c.from.ensures))
    (omega (arith, c.from.ensures)) c.loop-level.invariant.chosen c.loop-level.invariant.levels (to_z-of_z fits) c.in-Some.ensures.level
    (c.from-in-Some.ensures ∙ c.cost.ensures.value) c.requires.aimed.diagonal (to_z-of_z wide ∙ c.requires.aimed.target)

pub quadrature-cost-requires-clause-target : goal.quadrature-cost-requires-clause-target
quadrature-cost-requires-clause-target g t c =
    passed_within w64 c.remainder_of-left.result.im (2 ^ 31 + 2 ^ 21) c.remainder_of-left.ensures.im_bound (omega arith)

pub quadrature-loop-level-init : goal.quadrature-loop-level-init
quadrature-loop-level-init g t c =
    let wide : SFits w64 c.remainder_of-left.result.im = search rules in
    record {
      size = refl;
      same = refl;
      levels = c.requires.size.levels;
      chosen = refl;
      left = starts (q_at c.args.job.now.system c.args.job.now.grid (c.args.k - 1)) (from_i c.args.job.now.system c.args.job.now.grid (c.args.k - 1)) _ _ _ _
          (c.args.best.now, c.args.distance.now) _
          (ordered (q_at c.args.job.now.system c.args.job.now.grid (c.args.k - 1)) c.q_ladder.result c.from-2.result _ _
          (c.q_ladder.ensures.value ∙ ap (λ (a : List Axes). (get_or a (c.args.k - 1) no_axes).q) c.grid.ensures.grid)
          (c.from-2.ensures ∙ c.remainder_of-left.ensures.d) c.new-walk.ensures) (to_z-of_z wide ∙ c.remainder_of-left.ensures.im);
    }

pub quadrature-in_phase-requires : goal.quadrature-in_phase-requires
quadrature-in_phase-requires g t c =
    let next = q_step g t (goal.at.quadrature-in_phase-requires g t c).After-from-in-Some in
    let kept = length-set c.loop-level.levels (2 * c.from.result - 1) (to_z w8 (of_z w8 c.in-Some.level)) in
    let re_wide : SFits w64 c.remainder_of-left.result.re = search rules in
    λ lifetimes lives. (
      omega arith,
      (
        search rules,
        (
          c.requires.first,
          (
            c.requires.last,
            (
              record {
                size = kept ∙ c.loop-level.invariant.size ∙ c.requires.size.size;
                same = omega (arith, kept, c.loop-level.invariant.size, c.loop-level.invariant.same, c.requires.size.same);
                levels = next.levels;
              },
              (
                omega (arith, c.from-in-Some.ensures, c.requires.small),
                aimed (i_at c.args.job.now.system c.args.job.now.grid (c.args.k - 1)) _ _ _ _ _ (to_z-of_z re_wide) next.chosen
                    c.remainder_of-left.ensures.d (c.remainder_of-left.ensures.re c.in-Some.level) c.remainder_of-left.ensures.re_bound,
              ),
            ),
          ),
        ),
      ),
    )

pub quadrature-loop-level-preserved : goal.quadrature-loop-level-preserved
quadrature-loop-level-preserved g t c =
    let next = q_step g t (goal.at.quadrature-loop-level-preserved g t c).After-from-in-Some in
    record {
      size = search (rules, c.in_phase.auto.levels, c.loop-level.invariant.size);
      same = search (rules, c.in_phase.auto.best, c.loop-level.invariant.same);
      levels = c.in_phase.ensures.levels;
      chosen = behind _ _ _ c.in_phase.new.levels _ _ _ _ next (omega (arith, c.requires.first)) c.in_phase.ensures.chosen;
      left = goes_on _ (from_i c.args.job.now.system c.args.job.now.grid (c.args.k - 1)) _ _ _ _ _ _ _ _ _ _ _ _ c.loop-level.invariant.left
          c.in-Some.ensures.next next (c.in_phase.new.best, c.in_phase.new.distance) _ _ c.if-next-distance.false c.in_phase.ensures.less
          c.next.ensures.steps c.in_phase.ensures.best c.in_phase.ensures.steps;
    }

pub quadrature-returns-then-next-distance : goal.quadrature-returns-then-next-distance
quadrature-returns-then-next-distance g t c =
    ends_far _ (from_i c.args.job.now.system c.args.job.now.grid (c.args.k - 1)) _ _ c.args.levels.now c.loop-level.levels _
    (c.args.best.now, c.args.distance.now) (c.loop-level.best, c.loop-level.distance) _ _ _ c.loop-level.invariant.left c.loop-level.invariant.levels
    c.loop-level.invariant.chosen c.next.ensures.steps _ _ _ _ _ c.in-Some.ensures.next
    (q_step g t (goal.at.quadrature-returns-then-next-distance g t c).After-from-in-Some) c.if-next-distance.true

pub quadrature-returns-in_default : goal.quadrature-returns-in_default
quadrature-returns-in_default g t c =
    ends _ (from_i c.args.job.now.system c.args.job.now.grid (c.args.k - 1)) _ _ c.args.levels.now c.loop-level.levels _
    (c.args.best.now, c.args.distance.now) (c.loop-level.best, c.loop-level.distance) _ _ _ c.loop-level.invariant.left c.loop-level.invariant.levels
    c.loop-level.invariant.chosen c.next.ensures.steps c.in_default.ensures.next.0

pub in_phase-loop-level-init : goal.in_phase-loop-level-init
in_phase-loop-level-init g t c =
    let wide : SFits w64 c.args.target = search rules in
    record {
      size = refl;
      same = refl;
      levels = c.requires.size.levels;
      chosen = refl;
      left = starts (i_at c.args.job.now.system c.args.job.now.grid (c.args.k - 1)) (down c.args.job.now.system c.args.job.now.grid (c.args.k - 1)) _ _ _ _
          (c.args.best.now, c.args.distance.now) _
          (ordered (i_at c.args.job.now.system c.args.job.now.grid (c.args.k - 1)) c.i_ladder.result c.from-2.result _ _
          (c.i_ladder.ensures.value ∙ ap (λ (a : List Axes). (get_or a (c.args.k - 1) no_axes).i) c.grid.ensures.grid)
          (c.from-2.ensures ∙ c.requires.aimed.diagonal) c.new-walk.ensures) (to_z-of_z wide ∙ c.requires.aimed.target);
    }

pub in_phase-search-requires : goal.in_phase-search-requires
in_phase-search-requires g t c =
    let next = i_step g t (goal.at.in_phase-search-requires g t c).After-from-in-Some in
    let kept = length-set c.loop-level.levels (2 * c.from.result - 2) (to_z w8 (of_z w8 c.in-Some.level)) in
    λ lifetimes lives. (
      omega arith,
      (
        search rules,
        (
          omega (arith, c.requires.last),
          (
            record {
              size = kept ∙ c.loop-level.invariant.size ∙ c.requires.size.size;
              same = omega (arith, kept, c.loop-level.invariant.size, c.loop-level.invariant.same, c.requires.size.same);
              levels = next.levels;
            },
            omega (arith, c.from-in-Some.ensures, c.requires.small, c.requires.first),
          ),
        ),
      ),
    )

pub in_phase-loop-level-preserved : goal.in_phase-loop-level-preserved
in_phase-loop-level-preserved g t c =
    let next = i_step g t (goal.at.in_phase-loop-level-preserved g t c).After-from-in-Some in
    record {
      size = search (rules, c.search.auto.levels, c.loop-level.invariant.size);
      same = search (rules, c.search.auto.best, c.loop-level.invariant.same);
      levels = c.search.ensures.levels;
      chosen = behind _ _ _ c.search.new.levels _ _ _ _ next (omega (arith, c.requires.first)) c.search.ensures.chosen;
      left = goes_on _ (down c.args.job.now.system c.args.job.now.grid (c.args.k - 1)) _ _ _ _ _ _ _ _ _ _ _ _ c.loop-level.invariant.left
          c.in-Some.ensures.next next (c.search.new.best, c.search.new.distance) _ _ c.if-both-distance.false c.search.ensures.less
          c.next.ensures.steps c.search.ensures.best c.search.ensures.steps;
    }

pub in_phase-returns-then-both-distance : goal.in_phase-returns-then-both-distance
in_phase-returns-then-both-distance g t c =
    ends_far _ (down c.args.job.now.system c.args.job.now.grid (c.args.k - 1)) _ _ c.args.levels.now c.loop-level.levels _
    (c.args.best.now, c.args.distance.now) (c.loop-level.best, c.loop-level.distance) _ _ _ c.loop-level.invariant.left c.loop-level.invariant.levels
    c.loop-level.invariant.chosen c.next.ensures.steps _ _ _ _ _ c.in-Some.ensures.next
    (i_step g t (goal.at.in_phase-returns-then-both-distance g t c).After-from-in-Some) c.if-both-distance.true

pub in_phase-returns : goal.in_phase-returns
in_phase-returns g t c =
    ends _ (down c.args.job.now.system c.args.job.now.grid (c.args.k - 1)) _ _ c.args.levels.now c.loop-level.levels _
    (c.args.best.now, c.args.distance.now) (c.loop-level.best, c.loop-level.distance) _ _ _ c.loop-level.invariant.left c.loop-level.invariant.levels
    c.loop-level.invariant.chosen c.next.ensures.steps c.in_default.ensures.next.0
