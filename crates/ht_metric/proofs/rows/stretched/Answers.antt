use Rattle.std.proofs.Common.{◌∙◌, ◌≤◌, pos, w8, w64, SFits, to_z-of_z, arith, rules}
use Rattle.ht_pam.proofs.Products.{bounded, multiplies}
use Rattle.ht_metric.proofs.rows.stretched.Goals as goal

pub returns-clause-value : goal.returns-clause-value
returns-clause-value c =
    let few : c.args.diagonal ≤ 65535 = search rules in
    let level : SFits w8 c.args.level = search rules in
    multiplies w64 c.from.result c.from-2.result (pos c.args.diagonal) c.args.level 65535 7 c.from.ensures (c.from-2.ensures ∙ to_z-of_z level)
    few c.requires (omega arith) (omega arith) (omega arith)

pub returns-clause-bound : goal.returns-clause-bound
returns-clause-bound c = bounded _ (pos c.args.diagonal) c.args.level 65535 7 (returns-clause-value c) (search rules) c.requires
