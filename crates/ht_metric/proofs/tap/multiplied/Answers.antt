use Rattle.std.proofs.Common.{◌∙◌, w8, w16, w64, SFits, FitsSigned, to_z-of_z, arith, rules}
use Rattle.ht_pam.proofs.Products.{bounded, fits_abs, multiplies}
use Rattle.ht_metric.proofs.tap.multiplied.Goals as goal

pub returns-clause-value : goal.returns-clause-value
returns-clause-value c =
    let part : FitsSigned w16 c.args.part = search rules in
    let level : SFits w8 c.args.level = search rules in
    multiplies w64 c.from.result c.from-2.result c.args.part c.args.level 32768 7 (c.from.ensures ∙ to_z-of_z part) (c.from-2.ensures ∙ to_z-of_z level)
    (fits_abs w16 c.args.part part) c.requires (omega arith) (omega arith) (omega arith)

pub returns-clause-bound : goal.returns-clause-bound
returns-clause-bound c = bounded _ c.args.part c.args.level 32768 7 (returns-clause-value c) (fits_abs w16 c.args.part (search rules)) c.requires
