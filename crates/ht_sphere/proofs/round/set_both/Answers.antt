use Rattle.std.proofs.Common.{◌+◌, ◌-◌, ◌∷◌, [], ◌∙◌, ap, ℤ, w8, SFits, to_z, of_z, to_z-of_z, rules, arith}
use Rattle.ht_sphere.proofs.Steps.{both_put}
use Rattle.ht_sphere.proofs.round.set_both.Goals as goal

pub returns : goal.returns
returns c =
    let i = c.args.i in
    let q = c.args.q in
    let i_fits : SFits w8 i = search rules in
    let q_fits : SFits w8 q = search rules in
    let pair = c.copy_from_slice.ensures.after
    ∙ ap (λ (z : ℤ). z ∷ to_z w8 (of_z w8 q) ∷ []) (to_z-of_z i_fits) ∙ ap (λ (z : ℤ). i ∷ z ∷ []) (to_z-of_z q_fits) in
    both_put c.args.levels.now c.args.at (c.args.at + 1) (c.args.at + 2 - c.args.at) c.copy_from_slice.new.self i q (omega arith) (omega arith) pair c.requires
