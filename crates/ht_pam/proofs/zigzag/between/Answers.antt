use Rattle.std.proofs.Common.{◌∙◌, ◌+ℤ◌, pos, w8, w64, SFits, to_z-of_z, arith, rules}
use Rattle.std.proofs.lemmas.Int.{ints}
use Rattle.ht_pam.proofs.Products.{both, multiplies}
use Rattle.ht_pam.proofs.zigzag.between.Goals as goal

pub returns : goal.returns
returns c =
    let low : SFits w8 c.args.low = search rules in
    let high : SFits w8 c.args.high = search rules in
    multiplies w64 c.from.result _ (pos c.args.d) (c.args.low +ℤ c.args.high) 65535 14 c.from.ensures
    (both w64 c.from-2.result c.from-3.result c.args.low c.args.high 7 7 (c.from-2.ensures ∙ to_z-of_z low) (c.from-3.ensures ∙ to_z-of_z high)
    c.requires.low c.requires.high (omega arith) (omega arith) ◌+ℤ◌)
    c.requires.diagonal (omega (arith, ints, c.requires.low, c.requires.high)) (omega arith) (omega arith) (omega arith)
