use Rattle.std.proofs.Common.{arith, rules}
use Rattle.ht_metric.proofs.Signs.{passed}
use Rattle.ht_sim.proofs.Signs.{subtracts, adds, subtracts_bound}
use Rattle.ht_sim.proofs.rows.product.Goals as goal

pub returns-clause-re : goal.returns-clause-re
returns-clause-re c =
    let r = c.args.tap in
    let x = c.args.point in
    subtracts c.multiplied.result c.multiplied-2.result _ _ (omega arith) (omega arith)
    (passed _ r.re x.i (search rules) (search rules) c.multiplied.ensures.value)
    (passed _ r.im x.q (search rules) (search rules) c.multiplied-2.ensures.value)

pub returns-clause-im : goal.returns-clause-im
returns-clause-im c =
    let r = c.args.tap in
    let x = c.args.point in
    adds c.multiplied-3.result c.multiplied-4.result _ _ (omega arith) (omega arith)
    (passed _ r.re x.q (search rules) (search rules) c.multiplied-3.ensures.value)
    (passed _ r.im x.i (search rules) (search rules) c.multiplied-4.ensures.value)

pub returns-clause-re_bound : goal.returns-clause-re_bound
returns-clause-re_bound c =
    subtracts_bound c.multiplied.result c.multiplied-2.result _ 4194304 4194304
    c.multiplied.ensures.bound c.multiplied-2.ensures.bound (omega arith) (omega arith)
