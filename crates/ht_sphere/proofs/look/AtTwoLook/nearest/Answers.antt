use Rattle.std.proofs.Common.{rules, ◌<◌, ◌-◌, refl, length, drop, List, ℤ, ◌∙◌, sym, subst, w8, w64, SFits, to_z, of_z, to_z-of_z, arith}
use Rattle.ht_pam.specs.Ladders.{levels}
use Rattle.ht_pam.specs.Zigzags.{gap, nearest_first}
use Rattle.ht_sphere.proofs.Bests.{walk_some}
use Rattle.ht_sphere.proofs.Margins.{squares, sorted_of, of_two, of_one, margin_at_two, margin_of_one, second_costs}
use Rattle.ht_sphere.proofs.look.AtTwoLook.nearest.Goals as goal

pub first-level-requires : goal.first-level-requires
first-level-requires c =
    subst (λ (xs : List ℤ). 0 < length xs) (sym c.new-walk.ensures)
    (walk_some c.args.ladder (gap (to_z w64 (of_z w64 c.args.target)) c.from.result) c.requires.ladder)

pub second-requires : goal.second-requires
second-requires c =
    subst (λ (xs : List ℤ). 0 < length xs) (sym c.new-walk.ensures)
    (walk_some c.args.ladder (gap (to_z w64 (of_z w64 c.args.target)) c.from.result) c.requires.ladder)

pub overflow_sub-margin : goal.overflow_sub-margin
overflow_sub-margin c =
    let l = c.args.ladder in
    let t = c.args.target in
    let d = c.args.d in
    let x = c.first-level.result in
    let z = c.in-Some.second in
    let x_fits : SFits w8 x = search rules in
    let z_fits : SFits w8 z = search rules in
    let t_fits : SFits w64 t = search rules in
    let there = to_z-of_z t_fits in
    let sorted = sorted_of l t _ d _ c.new-walk.result c.new-walk.ensures there c.from.ensures in
    let walk = of_two (nearest_first (gap t d) (levels l)) c.new-walk.result x z sorted c.first-level.ensures.value c.in-Some.ensures.value in
    omega (
      arith,
      second_costs l t d x z (drop 2 c.new-walk.result) walk,
      c.cost.ensures.value ∙ squares d _ t _ z there (to_z-of_z z_fits),
      c.cost-in-Some.ensures.value ∙ squares d _ t _ x there (to_z-of_z x_fits),
    )

pub returns-in-Some-clause-margin : goal.returns-in-Some-clause-margin
returns-in-Some-clause-margin c =
    let l = c.args.ladder in
    let t = c.args.target in
    let d = c.args.d in
    let x = to_z w8 (of_z w8 c.first-level.result) in
    let z = c.in-Some.second in
    let x_fits : SFits w8 c.first-level.result = search rules in
    let z_fits : SFits w8 z = search rules in
    let t_fits : SFits w64 t = search rules in
    let there = to_z-of_z t_fits in
    let rest = drop 2 c.new-walk.result in
    let sorted = sorted_of l t _ d _ c.new-walk.result c.new-walk.ensures there c.from.ensures in
    let walk = of_two (nearest_first (gap t d) (levels l)) c.new-walk.result x z sorted
    (to_z-of_z x_fits ∙ c.first-level.ensures.value) c.in-Some.ensures.value in
    let far = c.cost.ensures.value ∙ squares d _ t _ z there (to_z-of_z z_fits) in
    let near = c.cost-in-Some.ensures.value ∙ squares d _ t x x there refl in
    margin_at_two l t d x z rest (c.cost.result - c.cost-in-Some.result) walk (omega (arith, far, near, second_costs l t d x z rest walk))

pub returns-in-None-clause-margin : goal.returns-in-None-clause-margin
returns-in-None-clause-margin c =
    let l = c.args.ladder in
    let t = c.args.target in
    let d = c.args.d in
    let x = to_z w8 (of_z w8 c.first-level.result) in
    let x_fits : SFits w8 c.first-level.result = search rules in
    let t_fits : SFits w64 t = search rules in
    let sorted = sorted_of l t _ d _ c.new-walk.result c.new-walk.ensures (to_z-of_z t_fits) c.from.ensures in
    margin_of_one l t d x _ (of_one (nearest_first (gap t d) (levels l)) c.new-walk.result x sorted
    (to_z-of_z x_fits ∙ c.first-level.ensures.value) c.in-None.ensures.value)
