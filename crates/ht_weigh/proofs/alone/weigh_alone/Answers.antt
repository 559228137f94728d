use Rattle.std.proofs.Common.{rules, ◌≡◌, ◌∙◌, ℕ, ℤ, List, get_or, SFits, w8, w64, to_z-of_z, arith, refl, sym, ap, subst}
use Rattle.ht_rate.specs.declared.kinds.Modulation.{Modulation}
use Rattle.ht_map.specs.Constellation.{axes_of}
use Rattle.ht_map.specs.Gray.{label_of}
use Rattle.ht_pam.specs.Grids.{no_axes}
use Rattle.ht_pam.specs.Ladders.{Rungs}
use Rattle.ht_pam.specs.declared.axes.Axes.{Axes}
use Rattle.ht_pam.specs.declared.point.Point.{Point}
use Rattle.ht_sphere.specs.Coordinates.{first_of, i_at, q_at}
use Rattle.ht_weigh.specs.Weights.{AreWeights}
use Rattle.ht_weigh.proofs.Leaf.{first_axes, first_costs, first_is, has_label}
use Rattle.ht_weigh.proofs.OneStream.{weights_alone}
use Rattle.ht_weigh.proofs.Whole.{alone_least}
use Rattle.ht_weigh.proofs.alone.weigh_alone.Goals as goal
use Rattle.ht_weigh.proofs.alone.weigh_alone.Goals.{in-Some, in_default}

-- a level is the nearest one of the constellation
level_is : (m : Modulation) (grid g : List Axes) (l : Rungs) (x t : ℤ) (d : ℕ) (axis : Axes → Rungs) → get_or grid 0 no_axes ≡ axes_of m → g ≡ grid
    → l ≡ axis (get_or g 0 no_axes) → x ≡ first_of l t d → x ≡ first_of (axis (axes_of m)) t d
level_is m grid g l x t d axis axes same is found =
    found ∙ ap (λ (r : Rungs). first_of r t d) (is ∙ ap (λ (h : List Axes). axis (get_or h 0 no_axes)) same ∙ ap axis axes)

point_is : (x y v w : ℤ) → x ≡ v → y ≡ w → (let p : Point = record { i = x; q = y } in p) ≡ (let r : Point = record { i = v; q = w } in r)
point_is x y v w e f = ap (λ (a : ℤ). let p : Point = record { i = a; q = y } in p) e ∙ ap (λ (b : ℤ). let p : Point = record { i = v; q = b } in p) f

pub returns-clause-distance : goal.returns-clause-distance
returns-clause-distance c =
    let m = c.args.modulation in
    let job = c.args.job.now in
    let is_job = c.grid.ensures.job in
    let re = c.remainder_of-left.result.re in
    let im = c.remainder_of-left.result.im in
    let d = c.remainder_of-left.result.d in
    let axes = first_axes m job.grid c.requires.full is_job.grid.some in
    let first = first_is m (q_at job.system job.grid 0) (i_at job.system job.grid 0) (get_or job.grid 0 no_axes) _ _ _ _ axes refl refl
    c.remainder_of-left.ensures.d c.remainder_of-left.ensures.d c.remainder_of-left.ensures.im c.remainder_of-left.ensures.re in
    let least = alone_least m job is_job c.requires.one re im d first in
    let re_fits : SFits w64 re = search rules in
    let im_fits : SFits w64 im = search rules in
    let i_fits : SFits w8 c.nearest_point-point.result.i = search rules in
    let q_fits : SFits w8 c.nearest_point-point.result.q = search rules in
    let i_is = level_is m job.grid c.grid.result.now c.i_ladder.result c.nearest_point-point.result.i re d (λ a. a.i) axes c.grid.ensures.grid
    c.i_ladder.ensures.value c.nearest_point-point.ensures.i in
    let q_is = level_is m job.grid c.grid-2.result.now c.q_ladder.result c.nearest_point-point.result.q im d (λ a. a.q) axes c.grid-2.ensures.grid
    c.q_ladder.ensures.value c.nearest_point-point.ensures.q in
    let i = first_costs (axes_of m).i d c.cost.result _ _ _ (to_z-of_z re_fits) (to_z-of_z i_fits ∙ i_is) c.cost.ensures.value in
    let q = first_costs (axes_of m).q d c.cost-2.result _ _ _ (to_z-of_z im_fits) (to_z-of_z q_fits ∙ q_is) c.cost-2.ensures.value in
    omega (arith, least, i, q, c.from.ensures)

pub returns-clause-weights : goal.returns-clause-weights
returns-clause-weights c =
    let m = c.args.modulation in
    let job = c.args.job.now in
    let is_job = c.grid.ensures.job in
    let re = c.remainder_of-left.result.re in
    let im = c.remainder_of-left.result.im in
    let d = c.remainder_of-left.result.d in
    let axes = first_axes m job.grid c.requires.full is_job.grid.some in
    let first = first_is m (q_at job.system job.grid 0) (i_at job.system job.grid 0) (get_or job.grid 0 no_axes) _ _ _ _ axes refl refl
    c.remainder_of-left.ensures.d c.remainder_of-left.ensures.d c.remainder_of-left.ensures.im c.remainder_of-left.ensures.re in
    elim c.match-label.branch [
      | in-Some w ↦ subst (AreWeights m job) (sym w.weights-is)
          (weights_alone m job is_job c.requires.full c.requires.one re im d first w.write.new.weights (w.write.ensures.size ∙ c.requires.size)
          w.write.ensures.weights)
      | in_default w ↦
          let i_is = level_is m job.grid c.grid.result.now c.i_ladder.result c.nearest_point-point.result.i re d (λ a. a.i) axes c.grid.ensures.grid
          c.i_ladder.ensures.value c.nearest_point-point.ensures.i in
          let q_is = level_is m job.grid c.grid-2.result.now c.q_ladder.result c.nearest_point-point.result.q im d (λ a. a.q) axes
          c.grid-2.ensures.grid c.q_ladder.ensures.value c.nearest_point-point.ensures.q in
          absurd (has_label m re im d (ap (label_of m) (sym (point_is _ _ _ _ i_is q_is)) ∙ sym c.label.ensures.value ∙ w.in_default.is))
    ]
