use Rattle.std.proofs.Common.{◌∙◌, get_or, drop, ap, pos, arith, rules}
use Rattle.ht_metric.specs.Rows.{no_leg}
use Rattle.ht_pam.specs.declared.point.Point.{Point}
use Rattle.ht_sim.specs.Channel.{row_mixed}
use Rattle.ht_sim.proofs.Mixing.{exact_is, stretched_is, sum_is}
use Rattle.ht_sim.proofs.Signs.{adds}
use Rattle.ht_sim.proofs.rows.exact.Goals as goal

pub returns-clause-value : goal.returns-clause-value
returns-clause-value c =
    let row = c.args.row in
    let place = c.from-place.result in
    let leg = get_or c.args.triangle.now row no_leg in
    let xs = c.args.vector.now in
    let point : Point = record { i = pos 0; q = pos 0 } in
    exact_is leg xs place point _ _ (omega arith)
    (adds c.stretched.result c.entries-sum.result.re _ _ (omega arith) (omega arith)
    (stretched_is c.args.triangle.now row _ _ _ c.diagonal-diagonal.ensures (search rules) c.stretched.ensures.value)
    (sum_is leg xs place (λ z. z.re) _ c.entries-sum.ensures.re))
    (adds c.stretched-2.result c.entries-sum.result.im _ _ (omega arith) (omega arith)
    (stretched_is c.args.triangle.now row _ _ _ c.diagonal-diagonal.ensures (search rules) c.stretched-2.ensures.value)
    (sum_is leg xs place (λ z. z.im) _ c.entries-sum.ensures.im))
    ∙ ap (λ n. row_mixed leg (drop n xs)) c.from-place.ensures
