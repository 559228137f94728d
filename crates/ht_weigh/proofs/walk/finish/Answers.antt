use Rattle.std.proofs.Common.{rules, ◌≡◌, ◌∙◌, ◌+◌, ◌*◌, ℤ, List, drop, length, get_or, w8, SFits, w64, to_z, of_z, to_z-of_z, arith, refl, sym, ap}
use Rattle.std.proofs.lemmas.List.{length-drop}
use Rattle.ht_rate.specs.declared.kinds.Modulation.{Modulation}
use Rattle.ht_pam.specs.Ladders.{Rungs}
use Rattle.ht_pam.specs.declared.axes.Axes.{Axes}
use Rattle.ht_pam.specs.declared.point.Point.{Point}
use Rattle.ht_map.specs.Gray.{label_of}
use Rattle.ht_pam.specs.Grids.{no_axes}
use Rattle.ht_map.specs.Constellation.{axes_of}
use Rattle.ht_metric.specs.Rows.{Row}
use Rattle.ht_sphere.specs.Coordinates.{q_at, i_at, first_of}
use Rattle.ht_weigh.specs.Walks.{first_cost}
use Rattle.ht_weigh.proofs.Leaf.{IsFirst, first_axes, first_costs, first_is, has_label, nearest_is, far, near}
use Rattle.ht_weigh.proofs.walk.finish.Goals as goal
use Rattle.ht_weigh.proofs.walk.finish.Goals.{After-from}

pub remainder_of-left-requires-clause-last : goal.remainder_of-left-requires-clause-last
remainder_of-left-requires-clause-last c = c.requires.some

-- the ladders of the first stream
axes_are : (c : After-from) → get_or c.args.job.now.grid 0 no_axes ≡ axes_of c.args.modulation
axes_are c = first_axes c.args.modulation c.args.job.now.grid c.requires.ready.full c.grid.ensures.job.grid.some

-- its coordinates, and their nearest levels
first : (c : After-from) → IsFirst c.args.modulation (q_at c.args.job.now.system c.args.job.now.grid 0) (i_at c.args.job.now.system c.args.job.now.grid 0)
    (drop 2 c.args.levels.now) c.remainder_of-left.result.re c.remainder_of-left.result.im c.remainder_of-left.result.d
first c =
    first_is c.args.modulation _ _ (get_or c.args.job.now.grid 0 no_axes) _ _ _ _ (axes_are c) refl refl c.remainder_of-left.ensures.d
    c.remainder_of-left.ensures.d c.remainder_of-left.ensures.im c.remainder_of-left.ensures.re

-- its nearest point
q_near : (c : After-from) → c.nearest_point-point.result.q ≡ first_of (axes_of c.args.modulation).q c.remainder_of-left.result.im c.remainder_of-left.result.d
q_near c =
    c.nearest_point-point.ensures.q
    ∙ ap (λ (l : Rungs). first_of l c.remainder_of-left.result.im c.remainder_of-left.result.d)
    (c.q_ladder.ensures.value ∙ ap (λ (g : List Axes). (get_or g 0 no_axes).q) c.grid-2.ensures.grid ∙ ap (λ (a : Axes). a.q) (axes_are c))

i_near : (c : After-from) → c.nearest_point-point.result.i ≡ first_of (axes_of c.args.modulation).i c.remainder_of-left.result.re c.remainder_of-left.result.d
i_near c =
    c.nearest_point-point.ensures.i
    ∙ ap (λ (l : Rungs). first_of l c.remainder_of-left.result.re c.remainder_of-left.result.d)
    (c.i_ladder.ensures.value ∙ ap (λ (g : List Axes). (get_or g 0 no_axes).i) c.grid.ensures.grid ∙ ap (λ (a : Axes). a.i) (axes_are c))

q_passed : (c : After-from) → to_z w8 (of_z w8 c.nearest_point-point.result.q)
    ≡ first_of (axes_of c.args.modulation).q c.remainder_of-left.result.im c.remainder_of-left.result.d
q_passed c = let fits : SFits w8 c.nearest_point-point.result.q = search rules in to_z-of_z fits ∙ q_near c

i_passed : (c : After-from) → to_z w8 (of_z w8 c.nearest_point-point.result.i)
    ≡ first_of (axes_of c.args.modulation).i c.remainder_of-left.result.re c.remainder_of-left.result.d
i_passed c = let fits : SFits w8 c.nearest_point-point.result.i = search rules in to_z-of_z fits ∙ i_near c

-- and its distance
nearest : (c : After-from) → c.args.partial + c.from.result
    ≡ c.args.partial + (first_cost (axes_of c.args.modulation).q c.remainder_of-left.result.im c.remainder_of-left.result.d
    + first_cost (axes_of c.args.modulation).i c.remainder_of-left.result.re c.remainder_of-left.result.d)
nearest c =
    let im_fits : SFits w64 c.remainder_of-left.result.im = search rules in
    let re_fits : SFits w64 c.remainder_of-left.result.re = search rules in
    nearest_is c.args.modulation c.remainder_of-left.result.d c.args.partial c.cost-2.result c.cost.result c.from.result _ _ _ _ _ _
    (to_z-of_z im_fits) (to_z-of_z re_fits) (q_passed c) (i_passed c) c.cost-2.ensures.value c.cost.ensures.value c.from.ensures

-- the point, as it is passed
point_is : (m : Modulation) (x y v w : ℤ) → x ≡ v → y ≡ w → (let p : Point = record { i = x; q = y } in p) ≡ (let r : Point = record { i = v; q = w } in r)
point_is m x y v w e f = ap (λ (a : ℤ). let p : Point = record { i = a; q = y } in p) e ∙ ap (λ (b : ℤ). let p : Point = record { i = v; q = b } in p) f

pub returns-then-nearest-clip : goal.returns-then-nearest-clip
returns-then-nearest-clip c =
    let at = (goal.at.returns-then-nearest-clip c).After-from in
    far c.args.modulation _ _ _ _ _ _ c.args.partial (first at) c.args.clip _ _ c.requires.ready.within (nearest at) c.if-nearest-clip.true

-- its label, and what its levels cost
pub lower_others-requires-clause-named : goal.lower_others-requires-clause-named
lower_others-requires-clause-named c =
    let at = (goal.at.lower_others-requires-clause-named c).After-from in
    let im_fits : SFits w64 c.remainder_of-left.result.im = search rules in
    let re_fits : SFits w64 c.remainder_of-left.result.re = search rules in
    record {
      within = c.in-Some.ensures.on.0;
      i = ap (λ (p : Point). p.i) c.in-Some.ensures.on.1 ∙ i_near at;
      q = ap (λ (p : Point). p.q) c.in-Some.ensures.on.1 ∙ q_near at;
      of_i = first_costs (axes_of c.args.modulation).i c.remainder_of-left.result.d c.cost.result _ _ _ (to_z-of_z re_fits) (i_passed at)
          c.cost.ensures.value;
      of_q = first_costs (axes_of c.args.modulation).q c.remainder_of-left.result.d c.cost-2.result _ _ _ (to_z-of_z im_fits) (q_passed at)
          c.cost-2.ensures.value;
    }

pub returns-in-Some : goal.returns-in-Some
returns-in-Some c =
    let at = (goal.at.returns-in-Some c).After-from in
    let long = length-drop 2 c.args.levels.now in
    let rows : length c.system.result.now ≡ length c.args.job.now.system = ap (λ (l : List Row). length l) c.system.ensures.system in
    let size : length (drop 2 c.args.levels.now) + 2 ≡ 2 * c.streams.result =
    omega (arith, long, c.requires.ready.size, c.streams.ensures.number, rows, c.requires.some) in
    let named = ap (label_of c.args.modulation) (sym (point_is c.args.modulation _ _ _ _ (i_near at) (q_near at)))
    ∙ sym c.label.ensures.value ∙ c.in-Some.is in
    near c.args.modulation _ _ _ _ _ _ c.args.partial (first at) _ c.streams.result c.in-Some.label (nearest at) size named _ _ _ _
    c.lower_streams.ensures c.lower_label.ensures c.lower_others.ensures

pub returns-in_default : goal.returns-in_default
returns-in_default c =
    let at = (goal.at.returns-in_default c).After-from in
    absurd (has_label c.args.modulation c.remainder_of-left.result.re c.remainder_of-left.result.im c.remainder_of-left.result.d
    (ap (label_of c.args.modulation) (sym (point_is c.args.modulation _ _ _ _ (i_near at) (q_near at))) ∙ sym c.label.ensures.value ∙ c.in_default.is))
