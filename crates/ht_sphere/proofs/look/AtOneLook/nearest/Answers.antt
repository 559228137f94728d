use Rattle.std.proofs.Common.{rules, ◌≡◌, ◌∙◌, ◌*◌, ◌-◌, ap, ℤ, ℕ, w8, w64, SFits, to_z, of_z, to_z-of_z}
use Rattle.ht_pam.specs.Zigzags.{gap}
use Rattle.ht_sphere.specs.Coordinates.{first_of}
use Rattle.ht_sphere.proofs.Margins.{margin_at_one}
use Rattle.ht_sphere.proofs.look.AtOneLook.nearest.Goals as goal

pub returns-clause-margin : goal.returns-clause-margin
returns-clause-margin c =
    let l = c.args.ladder in
    let t = c.args.target in
    let d = c.args.d in
    let x = c.nearest-level.result in
    let x_fits : SFits w8 x = search rules in
    let t_fits : SFits w64 t = search rules in
    let same : to_z w8 (of_z w8 x) ≡ x = to_z-of_z x_fits in
    let there : to_z w64 (of_z w64 t) ≡ t = to_z-of_z t_fits in
    let first : x ≡ first_of l t d =
    c.nearest-level.ensures.value ∙ ap (λ (n : ℕ). first_of l (to_z w64 (of_z w64 t)) n) c.from.ensures ∙ ap (λ (z : ℤ). first_of l z d) there in
    margin_at_one l t d (to_z w8 (of_z w8 x)) c.margin_of_lattice.result c.requires.ladder (same ∙ first)
    (c.margin_of_lattice.ensures ∙ ap (λ (z : ℤ). 4 * d * (d - gap z d (to_z w8 (of_z w8 x)))) there)
