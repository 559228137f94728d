use Rattle.std.proofs.Common.{rules, ◌≡◌, ◌+ℤ◌, ◌*ℤ◌, pos, arith, w8, w64, SFits, to_z, of_z, to_z-of_z, ℤ, ap, ◌∙◌}
use Rattle.std.specs.Int.Signed.{◌<ℤ◌, ◌≤ℤ◌}
use Rattle.std.proofs.lemmas.Int.{ints}
use Rattle.ht_pam.proofs.EndLemmas.{near, far}
use Rattle.ht_pam.proofs.zigzag.is_nearer.Goals as goal

pub returns : goal.returns
returns c =
    let low_fits : SFits w8 c.args.low = search rules in
    let low : to_z w8 (of_z w8 c.args.low) ≡ c.args.low = to_z-of_z low_fits in
    let high_fits : SFits w8 c.args.high = search rules in
    let high : to_z w8 (of_z w8 c.args.high) ≡ c.args.high = to_z-of_z high_fits in
    let sum : c.between.result ≡ pos c.args.d *ℤ (c.args.low +ℤ c.args.high) = c.between.ensures
    ∙ ap (λ (x : ℤ). pos c.args.d *ℤ (x +ℤ to_z w8 (of_z w8 c.args.high))) low ∙ ap (λ (x : ℤ). pos c.args.d *ℤ (c.args.low +ℤ x)) high in
    let wide : SFits w64 c.between.result = search rules in
    record {
      near = λ h.
          let le : (c.args.target +ℤ c.args.target) ≤ℤ c.between.result = grind (arith, ints) in
          near c.args.target c.args.d c.args.low c.args.high c.requires.order (omega (arith, ints));
      far = λ h.
          let less : c.between.result <ℤ (c.args.target +ℤ c.args.target) = grind (arith, ints) in
          far c.args.target c.args.d c.args.low c.args.high c.requires.some c.requires.order (omega (arith, ints));
    }
