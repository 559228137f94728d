use Rattle.std.proofs.Common.{rules, ◌≡◌, [], ◌∷◌, ◌++◌, ◌+◌, ◌-◌, ◌*◌, ◌^◌, ◌<◌, ℤ, ℕ, List, Bool, true, Ok, map, drop, get_or, slice_set}
use Rattle.std.proofs.Common.{w8, w64, SFits, to_z, of_z, to_z-of_z, ap, sym, ◌∙◌, subst, arith, refl}
use Rattle.std.proofs.Math.ListN.{length-set}
use Rattle.ht_pam.specs.Grids.{no_axes}
use Rattle.ht_pam.specs.declared.axes.Axes.{Axes}
use Rattle.ht_metric.proofs.Signs.{passed_within}
use Rattle.ht_sphere.specs.Coordinates.{Real, q_at, i_at, from_q, from_i, down}
use Rattle.ht_sphere.proofs.Down.{down_more}
use Rattle.ht_sphere.proofs.Steps.{Step, step, aimed, behind}
use Rattle.ht_witness.specs.Walks.{AreChosen, Suffix, IsAt, Visited, below, longer}
use Rattle.ht_witness.proofs.Walking.{length-down, suffix, begun, over, arrived, opened_by, cut_by}
use Rattle.ht_witness.proofs.walk.+walk.Goals as goal
use Rattle.ht_witness.proofs.walk.+walk.Goals.{quadrature-After-from-in-Some, in_phase-After-from-in-Some}

pub quadrature-cost-requires-clause-target : goal.quadrature-cost-requires-clause-target
quadrature-cost-requires-clause-target g t c =
    passed_within w64 c.remainder_of-left.result.im (2 ^ 31 + 2 ^ 21) c.remainder_of-left.ensures.im_bound (omega arith)

pub quadrature-loop-level-init : goal.quadrature-loop-level-init
quadrature-loop-level-init g t c = record {
  levels = record { levels = c.requires.levels; size = refl; chosen = refl };
  goes = λ rest.
      begun (g.V.Visitor.outcome c.args.visitor.now) (q_at c.args.job.now.system c.args.job.now.grid (c.args.k - 1)) _ _ _ _ c.q_ladder.result _ rest
      (c.q_ladder.ensures.value ∙ ap (λ (a : List Axes). (get_or a (c.args.k - 1) no_axes).q) c.grid.ensures.grid) c.ascending-walk.ensures;
}

pub quadrature-returns-clause-walked : goal.quadrature-returns-clause-walked
quadrature-returns-clause-walked g t c = λ rest.
    over (g.V.Visitor.outcome c.args.visitor.now)
    (q_at c.args.job.now.system c.args.job.now.grid (c.args.k - 1)) _ _ _ _ _ _ rest c.in_default.ensures.next.0 (c.loop-level.invariant.goes rest)

-- the levels of quadrature with the next one, and that they are
abbrev q_all : (g : _) (t : _) → quadrature-After-from-in-Some g t → List ℤ
q_all g t c = slice_set c.loop-level.levels (2 * c.from.result - 1) (to_z w8 (of_z w8 c.in-Some.level))

q_step : (g : _) (t : _) (c : quadrature-After-from-in-Some g t)
    → Step (q_at c.args.job.now.system c.args.job.now.grid (c.args.k - 1)) (drop (2 * c.args.k) c.args.levels.now) (q_all g t c)
    (2 * c.args.k - 1) c.from-in-Some.result c.in-Some.level
q_step g t c =
    let wide : SFits w64 c.remainder_of-left.result.im = search rules in
    let fits : SFits w8 c.in-Some.level = search rules in
    step _ _ c.loop-level.levels _ _ (2 * c.args.k) c.remainder_of-left.result.d _ _ _ _
    (omega (arith, c.loop-level.invariant.levels.size, c.requires.size, c.requires.last, c.from.ensures)) (omega (arith, c.from.ensures))
    (omega (arith, c.from.ensures)) c.loop-level.invariant.levels.chosen c.loop-level.invariant.levels.levels (to_z-of_z fits) c.in-Some.ensures.level
    (c.from-in-Some.ensures ∙ c.cost.ensures.value) c.remainder_of-left.ensures.d (to_z-of_z wide ∙ c.remainder_of-left.ensures.im)

-- the suffix that the walk comes to, and what is to be walked behind it
abbrev q_here : (g : _) (t : _) → quadrature-After-from-in-Some g t → Suffix
q_here g t c =
    suffix (from_i c.args.job.now.system c.args.job.now.grid (c.args.k - 1)) (drop (2 * c.args.k - 1) (q_all g t c)) (c.args.partial + c.from-in-Some.result)

abbrev q_todo : (g : _) (t : _) → quadrature-After-from-in-Some g t → List Suffix → List Suffix
q_todo g t c rest =
    map (longer (q_at c.args.job.now.system c.args.job.now.grid (c.args.k - 1)) (from_i c.args.job.now.system c.args.job.now.grid (c.args.k - 1))
    (drop (2 * c.args.k) c.args.levels.now) c.args.partial) c.next.new.walk ++ rest

q_is_at : (g : _) (t : _) (c : quadrature-After-from-in-Some g t)
    → IsAt (2 * c.from.result - 1) (q_all g t c) (c.args.partial + c.from-in-Some.result) (q_here g t c)
q_is_at g t c =
    let same : 2 * c.from.result - 1 ≡ 2 * c.args.k - 1 = omega (arith, c.from.ensures) in
    let ahead = length-down c.args.job.now.system c.args.job.now.grid (c.args.k - 1) in
    record { ahead = omega (arith, ahead, same, c.requires.first); levels = ap (λ (m : ℕ). drop m (q_all g t c)) (sym same); partial = refl }

q_came : (g : _) (t : _) (c : quadrature-After-from-in-Some g t) (rest : List Suffix)
    → g.V.Visitor.outcome c.args.visitor.now c.args.state.now
    (below (from_q c.args.job.now.system c.args.job.now.grid (c.args.k - 1)) (drop (2 * c.args.k) c.args.levels.now) c.args.partial ++ rest)
    ≡ g.V.Visitor.outcome c.args.visitor.now c.loop-level.state (q_here g t c ∷ q_todo g t c rest)
q_came g t c rest =
    arrived (g.V.Visitor.outcome c.args.visitor.now) (q_at c.args.job.now.system c.args.job.now.grid (c.args.k - 1))
    (from_i c.args.job.now.system c.args.job.now.grid (c.args.k - 1))
    (drop (2 * c.args.k) c.args.levels.now) c.args.partial c.loop-level.state _ c.loop-level.walk c.next.new.walk (q_all g t c) (2 * c.args.k - 1)
    c.from-in-Some.result c.in-Some.level rest c.in-Some.ensures.next (q_step g t c) (c.loop-level.invariant.goes rest)

pub quadrature-in_phase-requires : goal.quadrature-in_phase-requires
quadrature-in_phase-requires g t c κs within =
    let next = q_step g t (goal.at.quadrature-in_phase-requires g t c).After-from-in-Some in
    let re_wide : SFits w64 c.remainder_of-left.result.re = search rules in (
      omega arith,
      (
        search rules,
        (
          search rules,
          (
            search rules,
            (
              record {
                first = c.requires.first;
                last = c.requires.last;
                size = length-set c.loop-level.levels _ _ ∙ c.loop-level.invariant.levels.size ∙ c.requires.size;
                levels = next.levels;
                small = omega (arith, c.from-in-Some.ensures, c.requires.small);
              },
              aimed (i_at c.args.job.now.system c.args.job.now.grid (c.args.k - 1)) _ _ _ _ _ (to_z-of_z re_wide) next.chosen
                  c.remainder_of-left.ensures.d (c.remainder_of-left.ensures.re c.in-Some.level) c.remainder_of-left.ensures.re_bound,
            ),
          ),
        ),
      ),
    )

pub quadrature-loop-level-preserved-in-Ok : goal.quadrature-loop-level-preserved-in-Ok
quadrature-loop-level-preserved-in-Ok g t c =
    let at = (goal.at.quadrature-loop-level-preserved-in-Ok g t c).After-from-in-Some in
    record {
      levels = record {
        size = c.in-Ok.ensures.levels.size ∙ length-set c.loop-level.levels _ _ ∙ c.loop-level.invariant.levels.size;
        levels = c.in-Ok.ensures.levels.levels;
        chosen = behind _ _ _ c.in_phase.new.levels _ _ _ _ (q_step g t at) (omega (arith, c.requires.first)) c.in-Ok.ensures.levels.chosen;
      };
      goes = λ rest.
          opened_by (g.V.Visitor.outcome c.args.visitor.now) _ _ _ _ _ _ c.in-Ok-true.field-0-test (q_came g t at rest)
          (c.in-Ok-true.ensures (q_here g t at) (q_todo g t at rest) (q_is_at g t at))
          ∙ c.in-Ok.ensures.walked (q_todo g t at rest);
    }

pub quadrature-returns-in-Err-in_phase-clause-walked : goal.quadrature-returns-in-Err-in_phase-clause-walked
quadrature-returns-in-Err-in_phase-clause-walked g t c = λ rest.
    let at = (goal.at.quadrature-returns-in-Err-in_phase-clause-walked g t c).After-from-in-Some in
    subst (λ (o : g.V.Visitor.Outcome). g.V.Visitor.stops o c.in_phase.new.state c.in-Err-in_phase.stop)
    (sym (opened_by (g.V.Visitor.outcome c.args.visitor.now) _ _ _ _ _ _ c.in-Ok-true.field-0-test (q_came g t at rest)
    (c.in-Ok-true.ensures (q_here g t at) (q_todo g t at rest) (q_is_at g t at))))
    (c.in-Err-in_phase.ensures.walked (q_todo g t at rest))

pub quadrature-loop-level-preserved : goal.quadrature-loop-level-preserved
quadrature-loop-level-preserved g t c =
    let at = (goal.at.quadrature-loop-level-preserved g t c).After-from-in-Some in
    record {
      levels = record {
        size = length-set c.loop-level.levels _ _ ∙ c.loop-level.invariant.levels.size;
        levels = (q_step g t at).levels;
        chosen = behind _ _ _ (q_all g t at) _ _ _ _ (q_step g t at) (omega (arith, c.requires.first)) refl;
      };
      goes = λ rest.
          cut_by (g.V.Visitor.outcome c.args.visitor.now) _ _ _ _ _ _ c.in-Ok-false.field-0-test (q_came g t at rest)
          (c.in-Ok-false.ensures (q_here g t at) (q_todo g t at rest) (q_is_at g t at));
    }

pub quadrature-returns-in-Err-clause-walked : goal.quadrature-returns-in-Err-clause-walked
quadrature-returns-in-Err-clause-walked g t c = λ rest.
    let at = (goal.at.quadrature-returns-in-Err-clause-walked g t c).After-from-in-Some in
    subst (λ (o : g.V.Visitor.Outcome). g.V.Visitor.stops o c.visit.new.state c.in-Err.stop) (sym (q_came g t at rest))
    (c.in-Err.ensures (q_here g t at) (q_todo g t at rest) (q_is_at g t at))

pub in_phase-loop-level-init : goal.in_phase-loop-level-init
in_phase-loop-level-init g t c = record {
  levels = record { levels = c.requires.ready.levels; size = refl; chosen = refl };
  goes = λ rest.
      begun (g.V.Visitor.outcome c.args.visitor.now) (i_at c.args.job.now.system c.args.job.now.grid (c.args.k - 1)) _ _ _ _ c.i_ladder.result _ rest
      (c.i_ladder.ensures.value ∙ ap (λ (a : List Axes). (get_or a (c.args.k - 1) no_axes).i) c.grid.ensures.grid) c.ascending-walk.ensures;
}

pub in_phase-returns-clause-walked : goal.in_phase-returns-clause-walked
in_phase-returns-clause-walked g t c = λ rest.
    over (g.V.Visitor.outcome c.args.visitor.now)
    (i_at c.args.job.now.system c.args.job.now.grid (c.args.k - 1)) _ _ _ _ _ _ rest c.in_default.ensures.next.0 (c.loop-level.invariant.goes rest)

-- the levels of in_phase with the next one, and that they are
abbrev i_all : (g : _) (t : _) → in_phase-After-from-in-Some g t → List ℤ
i_all g t c = slice_set c.loop-level.levels (2 * c.from.result - 2) (to_z w8 (of_z w8 c.in-Some.level))

i_step : (g : _) (t : _) (c : in_phase-After-from-in-Some g t)
    → Step (i_at c.args.job.now.system c.args.job.now.grid (c.args.k - 1)) (drop (2 * c.args.k - 1) c.args.levels.now) (i_all g t c)
    (2 * (c.args.k - 1)) c.from-in-Some.result c.in-Some.level
i_step g t c =
    let wide : SFits w64 c.args.target = search rules in
    let fits : SFits w8 c.in-Some.level = search rules in
    step _ _ c.loop-level.levels _ _ (2 * c.args.k - 1) c.args.d _ _ _ _
    (omega (arith, c.loop-level.invariant.levels.size, c.requires.ready.size, c.requires.ready.last, c.from.ensures)) (omega (arith, c.from.ensures))
    (omega (arith, c.from.ensures)) c.loop-level.invariant.levels.chosen c.loop-level.invariant.levels.levels (to_z-of_z fits) c.in-Some.ensures.level
    (c.from-in-Some.ensures ∙ c.cost.ensures.value) c.requires.aimed.diagonal (to_z-of_z wide ∙ c.requires.aimed.target)

-- the suffix that the walk comes to, and what is to be walked behind it
abbrev i_here : (g : _) (t : _) → in_phase-After-from-in-Some g t → Suffix
i_here g t c =
    suffix (down c.args.job.now.system c.args.job.now.grid (c.args.k - 1)) (drop (2 * (c.args.k - 1)) (i_all g t c)) (c.args.partial + c.from-in-Some.result)

abbrev i_todo : (g : _) (t : _) → in_phase-After-from-in-Some g t → List Suffix → List Suffix
i_todo g t c rest =
    map (longer (i_at c.args.job.now.system c.args.job.now.grid (c.args.k - 1)) (down c.args.job.now.system c.args.job.now.grid (c.args.k - 1))
    (drop (2 * c.args.k - 1) c.args.levels.now) c.args.partial) c.next.new.walk ++ rest

i_is_at : (g : _) (t : _) (c : in_phase-After-from-in-Some g t)
    → IsAt (2 * c.from.result - 2) (i_all g t c) (c.args.partial + c.from-in-Some.result) (i_here g t c)
i_is_at g t c =
    let same : 2 * c.from.result - 2 ≡ 2 * (c.args.k - 1) = omega (arith, c.from.ensures) in
    let ahead = length-down c.args.job.now.system c.args.job.now.grid (c.args.k - 1) in
    record { ahead = ahead ∙ sym same; levels = ap (λ (m : ℕ). drop m (i_all g t c)) (sym same); partial = refl }

i_came : (g : _) (t : _) (c : in_phase-After-from-in-Some g t) (rest : List Suffix)
    → g.V.Visitor.outcome c.args.visitor.now c.args.state.now
    (below (from_i c.args.job.now.system c.args.job.now.grid (c.args.k - 1)) (drop (2 * c.args.k - 1) c.args.levels.now) c.args.partial ++ rest)
    ≡ g.V.Visitor.outcome c.args.visitor.now c.loop-level.state (i_here g t c ∷ i_todo g t c rest)
i_came g t c rest =
    arrived (g.V.Visitor.outcome c.args.visitor.now) (i_at c.args.job.now.system c.args.job.now.grid (c.args.k - 1))
    (down c.args.job.now.system c.args.job.now.grid (c.args.k - 1))
    (drop (2 * c.args.k - 1) c.args.levels.now) c.args.partial c.loop-level.state _ c.loop-level.walk c.next.new.walk (i_all g t c) (2 * (c.args.k - 1))
    c.from-in-Some.result c.in-Some.level rest c.in-Some.ensures.next (i_step g t c) (c.loop-level.invariant.goes rest)

pub in_phase-quadrature-requires : goal.in_phase-quadrature-requires
in_phase-quadrature-requires g t c κs within =
    let next = i_step g t (goal.at.in_phase-quadrature-requires g t c).After-from-in-Some in (
      omega arith,
      (
        search rules,
        (
          search rules,
          (
            search rules,
            record {
              first = omega arith;
              last = omega (arith, c.requires.ready.last);
              size = length-set c.loop-level.levels _ _ ∙ c.loop-level.invariant.levels.size ∙ c.requires.ready.size;
              levels = next.levels;
              small = omega (arith, c.from-in-Some.ensures, c.requires.ready.small, c.requires.ready.first);
            },
          ),
        ),
      ),
    )

-- the next level is written in front of the chosen ones
i_chosen : (g : _) (t : _) (c : in_phase-After-from-in-Some g t) → AreChosen (2 * c.args.k - 1) c.args.levels.now (i_all g t c)
i_chosen g t c = record {
  size = length-set c.loop-level.levels _ _ ∙ c.loop-level.invariant.levels.size;
  levels = (i_step g t c).levels;
  chosen = behind _ _ _ (i_all g t c) _ _ _ _ (i_step g t c) (omega (arith, c.requires.ready.first)) refl;
}

-- what is below an open level is walked from Q of the stream in front on, if there is one
i_deeper : (g : _) (t : _) (c : in_phase-After-from-in-Some g t) → 1 < c.args.k
    → down c.args.job.now.system c.args.job.now.grid (c.args.k - 1) ≡ from_q c.args.job.now.system c.args.job.now.grid (c.args.k - 1 - 1)
i_deeper g t c more = down_more c.args.job.now.system c.args.job.now.grid (c.args.k - 1) (omega arith)

i_opened : (g : _) (t : _) (c : in_phase-After-from-in-Some g t) (b : Bool) (state : _) → b ≡ true
    → ((s : Suffix) (rest : List Suffix) → IsAt (2 * c.from.result - 2) (i_all g t c) (c.args.partial + c.from-in-Some.result) s
    → Visited (g.V.Visitor.outcome c.args.visitor.now) g.V.Visitor.stops c.loop-level.state s rest state (Ok b))
    → (cs : List Real) → down c.args.job.now.system c.args.job.now.grid (c.args.k - 1) ≡ cs → (rest : List Suffix)
    → g.V.Visitor.outcome c.args.visitor.now c.args.state.now
    (below (from_i c.args.job.now.system c.args.job.now.grid (c.args.k - 1)) (drop (2 * c.args.k - 1) c.args.levels.now) c.args.partial ++ rest)
    ≡ g.V.Visitor.outcome c.args.visitor.now state
    (below cs (drop (2 * (c.args.k - 1)) (i_all g t c)) (c.args.partial + c.from-in-Some.result) ++ i_todo g t c rest)
i_opened g t c b state is_open visit cs e rest =
    opened_by (g.V.Visitor.outcome c.args.visitor.now) _ _ _ _ _ _ is_open (i_came g t c rest) (visit (i_here g t c) (i_todo g t c rest) (i_is_at g t c))
    ∙ ap (λ (cs : List Real). g.V.Visitor.outcome c.args.visitor.now state
    (below cs (drop (2 * (c.args.k - 1)) (i_all g t c)) (c.args.partial + c.from-in-Some.result) ++ i_todo g t c rest)) e

pub in_phase-loop-level-preserved-in-Ok : goal.in_phase-loop-level-preserved-in-Ok
in_phase-loop-level-preserved-in-Ok g t c =
    let at = (goal.at.in_phase-loop-level-preserved-in-Ok g t c).After-from-in-Some in
    record {
      levels = record {
        size = c.in-Ok.ensures.levels.size ∙ length-set c.loop-level.levels _ _ ∙ c.loop-level.invariant.levels.size;
        levels = c.in-Ok.ensures.levels.levels;
        chosen = behind _ _ _ c.quadrature.new.levels _ _ _ _ (i_step g t at) (omega (arith, c.requires.ready.first)) c.in-Ok.ensures.levels.chosen;
      };
      goes = λ rest.
          i_opened g t at _ _ c.in-Ok-true.field-0-test c.in-Ok-true.ensures _ (i_deeper g t at (omega arith)) rest
          ∙ c.in-Ok.ensures.walked (i_todo g t at rest);
    }

pub in_phase-returns-in-Err-quadrature-clause-walked : goal.in_phase-returns-in-Err-quadrature-clause-walked
in_phase-returns-in-Err-quadrature-clause-walked g t c = λ rest.
    let at = (goal.at.in_phase-returns-in-Err-quadrature-clause-walked g t c).After-from-in-Some in
    subst (λ (o : g.V.Visitor.Outcome). g.V.Visitor.stops o c.quadrature.new.state c.in-Err-quadrature.stop)
    (sym (i_opened g t at _ _ c.in-Ok-true.field-0-test c.in-Ok-true.ensures _ (i_deeper g t at (omega arith)) rest))
    (c.in-Err-quadrature.ensures.walked (i_todo g t at rest))

pub in_phase-loop-level-preserved-else-k-gt1 : goal.in_phase-loop-level-preserved-else-k-gt1
in_phase-loop-level-preserved-else-k-gt1 g t c =
    let at = (goal.at.in_phase-loop-level-preserved-else-k-gt1 g t c).After-from-in-Some in
    let last : c.args.k - 1 ≡ 0 = omega arith in
    record {
      levels = i_chosen g t at;
      goes = i_opened g t at _ _ c.in-Ok-true.field-0-test c.in-Ok-true.ensures [] (ap (down c.args.job.now.system c.args.job.now.grid) last);
    }

pub in_phase-loop-level-preserved : goal.in_phase-loop-level-preserved
in_phase-loop-level-preserved g t c =
    let at = (goal.at.in_phase-loop-level-preserved g t c).After-from-in-Some in
    record {
      levels = i_chosen g t at;
      goes = λ rest.
          cut_by (g.V.Visitor.outcome c.args.visitor.now) _ _ _ _ _ _ c.in-Ok-false.field-0-test (i_came g t at rest)
          (c.in-Ok-false.ensures (i_here g t at) (i_todo g t at rest) (i_is_at g t at));
    }

pub in_phase-returns-in-Err-clause-walked : goal.in_phase-returns-in-Err-clause-walked
in_phase-returns-in-Err-clause-walked g t c = λ rest.
    let at = (goal.at.in_phase-returns-in-Err-clause-walked g t c).After-from-in-Some in
    subst (λ (o : g.V.Visitor.Outcome). g.V.Visitor.stops o c.visit.new.state c.in-Err.stop) (sym (i_came g t at rest))
    (c.in-Err.ensures (i_here g t at) (i_todo g t at rest) (i_is_at g t at))
