use Rattle.std.proofs.Common.{rules, ◌≡◌, ◌∷◌, ◌+◌, ◌-◌, ◌*◌, ◌^◌, ◌≤◌, ℤ, List, drop, set, get_or, length, w8}
use Rattle.std.proofs.Common.{w64, SFits, to_z, of_z, to_z-of_z, unsigned_abs, ap, sym, ◌∙◌, subst, arith}
use Rattle.std.specs.List.{All}
use Rattle.std.proofs.lemmas.List.Elements.{All-set}
use Rattle.std.proofs.Math.ListN.{length-set}
use Rattle.ht_pam.specs.Grids.{no_axes}
use Rattle.ht_pam.specs.declared.axes.Axes.{Axes}
use Rattle.ht_metric.proofs.Signs.{passed_within}
use Rattle.ht_sphere.specs.Coordinates.{Real, down, from_q, q_at, i_at}
use Rattle.ht_sphere.specs.Tree.{Reached, rounding}
use Rattle.ht_sphere.proofs.Down.{down_more}
use Rattle.ht_sphere.proofs.Others.{AreChosen, OthersFrom, others_two, round_two}
use Rattle.ht_sphere.proofs.Steps.{two_set, chosen}
use Rattle.ht_sphere.proofs.round.+round.Goals as goal
use Rattle.ht_sphere.proofs.round.+round.Goals.{After-from-2}

-- what was computed is within its bound as it is passed
pub nearest-q-requires-clause-target : goal.nearest-q-requires-clause-target
nearest-q-requires-clause-target g t c = passed_within w64 c.remainder_of-left.result.im (2 ^ 31 + 2 ^ 21) c.remainder_of-left.ensures.im_bound (omega arith)

pub nearest-i-requires-clause-target : goal.nearest-i-requires-clause-target
nearest-i-requires-clause-target g t c = passed_within w64 c.remainder_of-left.result.re (2 ^ 31 + 2 ^ 21) c.remainder_of-left.ensures.re_bound (omega arith)

pub cost-requires-clause-target : goal.cost-requires-clause-target
cost-requires-clause-target g t c = passed_within w64 c.remainder_of-left.result.im (2 ^ 31 + 2 ^ 21) c.remainder_of-left.ensures.im_bound (omega arith)

pub cost-requires-2-clause-target : goal.cost-requires-2-clause-target
cost-requires-2-clause-target g t c = passed_within w64 c.remainder_of-left.result.re (2 ^ 31 + 2 ^ 21) c.remainder_of-left.ensures.re_bound (omega arith)

pub cost-requires-clause-level : goal.cost-requires-clause-level
cost-requires-clause-level g t c = passed_within w8 c.nearest-q.result.level 7 c.nearest-q.ensures.bound (omega arith)

pub cost-requires-2-clause-level : goal.cost-requires-2-clause-level
cost-requires-2-clause-level g t c = passed_within w8 c.nearest-i.result.level 7 c.nearest-i.ensures.bound (omega arith)

pub round-requires : goal.round-requires
round-requires g t c =
    let x = c.nearest-q.result.level in
    let y = c.nearest-i.result.level in
    let ls = c.args.levels.now in
    let x_fits : SFits w8 x = search rules in
    let y_fits : SFits w8 y = search rules in
    let x_small : unsigned_abs (to_z w8 (of_z w8 x)) ≤ 7 = subst (λ (z : ℤ). unsigned_abs z ≤ 7) (sym (to_z-of_z x_fits)) c.nearest-q.ensures.bound in
    let y_small : unsigned_abs (to_z w8 (of_z w8 y)) ≤ 7 = subst (λ (z : ℤ). unsigned_abs z ≤ 7) (sym (to_z-of_z y_fits)) c.nearest-i.ensures.bound in
    let at = 2 * c.from.result - 2 in
    let one = set ls (at + 1) (to_z w8 (of_z w8 x)) in
    let same = length-set ls (at + 1) (to_z w8 (of_z w8 x)) in
    let same2 = length-set one at (to_z w8 (of_z w8 y)) in
    λ lifetimes lives. (
      omega arith,
      (
        search rules,
        (
          omega (arith, c.requires.last),
          (
            ap (λ (l : List ℤ). length l) c.set_both.ensures ∙ same2 ∙ same ∙ c.requires.size,
            (
              subst (λ (l : List ℤ). All (λ z. unsigned_abs z ≤ 7) l) (sym c.set_both.ensures)
                  (All-set (λ z. unsigned_abs z ≤ 7) one at (to_z w8 (of_z w8 y)) y_small
                  (All-set (λ z. unsigned_abs z ≤ 7) ls (at + 1) (to_z w8 (of_z w8 x)) x_small c.requires.levels)),
              omega (arith, c.requires.small, c.from-2.ensures, c.cost.ensures.bound, c.cost-2.ensures.bound),
            ),
          ),
        ),
      ),
    )

-- both levels of stream k, and what they cost
two_chosen : (g : _) (t : _) (c : After-from-2 g t)
    → AreChosen (q_at c.args.job.now.system c.args.job.now.grid (c.args.k - 1)) (i_at c.args.job.now.system c.args.job.now.grid (c.args.k - 1))
    (drop (2 * c.args.k) c.args.levels.now) c.args.distance.now (c.args.distance.now + c.from-2.result) c.nearest-q.result.margin c.nearest-i.result.margin
    c.nearest-q.result.level c.nearest-i.result.level c.remainder_of-left.result.re
two_chosen g t c =
    let j = c.args.k - 1 in
    let x_fits : SFits w8 c.nearest-q.result.level = search rules in
    let y_fits : SFits w8 c.nearest-i.result.level = search rules in
    let im_fits : SFits w64 c.remainder_of-left.result.im = search rules in
    let re_fits : SFits w64 c.remainder_of-left.result.re = search rules in
    chosen _ _ _ c.args.distance.now c.remainder_of-left.result.d _ _ c.cost.result c.cost-2.result c.from-2.result _ _ _ _ _ _ _ c.q_ladder.result
    c.i_ladder.result
    (c.q_ladder.ensures.value ∙ ap (λ (a : List Axes). (get_or a j no_axes).q) c.grid.ensures.grid)
    (c.i_ladder.ensures.value ∙ ap (λ (a : List Axes). (get_or a j no_axes).i) c.grid-2.ensures.grid)
    c.remainder_of-left.ensures.d c.remainder_of-left.ensures.d
    (to_z-of_z im_fits ∙ c.remainder_of-left.ensures.im) (to_z-of_z re_fits) c.remainder_of-left.ensures.re (to_z-of_z x_fits) (to_z-of_z y_fits)
    c.nearest-q.ensures.level c.nearest-i.ensures.level c.nearest-q.ensures.margin c.nearest-i.ensures.margin
    c.cost.ensures.value c.cost-2.ensures.value c.from-2.ensures

two_written : (g : _) (t : _) (c : After-from-2 g t) → drop (2 * (c.args.k - 1)) c.set_both.new.levels
    ≡ c.nearest-i.result.level ∷ c.nearest-q.result.level ∷ drop (2 * c.args.k) c.args.levels.now
two_written g t c =
    let x_fits : SFits w8 c.nearest-q.result.level = search rules in
    let y_fits : SFits w8 c.nearest-i.result.level = search rules in
    let at = 2 * c.from.result - 2 in
    let here : at + 2 ≡ 2 * c.args.k = omega (arith, c.from.ensures, c.if-k-eq0.false) in
    let size : at + 2 ≤ length c.args.levels.now = omega (arith, here, c.requires.size, c.requires.last) in
    ap (λ (l : List ℤ). drop (2 * (c.args.k - 1)) l) c.set_both.ensures
    ∙ two_set c.args.levels.now c.args.k at _ _ _ _ here size (to_z-of_z x_fits) (to_z-of_z y_fits)

pub returns-clause-found : goal.returns-clause-found
returns-clause-found g t c =
    let rows = c.args.job.now.system in
    let grid = c.args.job.now.grid in
    let at = (goal.at.returns-clause-found g t c).After-from-2 in
    let next =
    ap (λ (l : List ℤ). rounding (down rows grid (c.args.k - 1)) l (c.args.distance.now + c.from-2.result)) (sym (two_written g t at))
    ∙ c.round.ensures.found in
    ap (λ (cs : List Real). rounding cs (drop (2 * c.args.k) c.args.levels.now) c.args.distance.now) (down_more rows grid c.args.k (omega arith))
    ∙ round_two _ _ (down rows grid (c.args.k - 1)) _ _ _ _ _ _ _ _ (c.round.new.levels, c.round.new.distance) (two_chosen g t at) next

pub returns-clause-others : goal.returns-clause-others
returns-clause-others g t c some =
    let rows = c.args.job.now.system in
    let grid = c.args.job.now.grid in
    let j = c.args.k - 1 in
    let at = (goal.at.returns-clause-others g t c).After-from-2 in
    let n = c.args.distance.now + c.from-2.result in
    let off = c.round.new.distance + c.round.new.spare in
    let w : Reached = (c.round.new.levels, c.round.new.distance) in
    let less = c.round.ensures.less some in
    let rest : OthersFrom (down rows grid j) (c.nearest-i.result.level ∷ c.nearest-q.result.level ∷ drop (2 * c.args.k) c.args.levels.now) n w off =
    subst (λ (l : List ℤ). OthersFrom (down rows grid j) l n w off) (two_written g t at) (c.round.ensures.others some) in
    let all : OthersFrom (from_q rows grid j) (drop (2 * c.args.k) c.args.levels.now) c.args.distance.now w off =
    others_two _ _ (down rows grid j) _ _ n _ _ off _ _ _ w (two_chosen g t at)
    (omega (arith, less, c.lesser-2.ensures.right, c.lesser.ensures.left)) (omega (arith, less, c.lesser-2.ensures.right, c.lesser.ensures.right)) rest in
    subst (λ (cs : List Real). OthersFrom cs (drop (2 * c.args.k) c.args.levels.now) c.args.distance.now w off)
    (sym (down_more rows grid c.args.k (omega arith))) all
