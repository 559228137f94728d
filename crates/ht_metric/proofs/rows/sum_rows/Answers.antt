use Rattle.std.proofs.Common.{◌≡◌, ◌-◌, ◌<◌, ◌∙◌, pos, arith}
use Rattle.ht_pam.specs.declared.point.Point.{Point}
use Rattle.ht_metric.specs.Arrays.{entries_few}
use Rattle.ht_metric.proofs.SumLemmas.{entries-suc, none_added, row_added}
use Rattle.ht_metric.proofs.rows.sum_rows.Goals as goal

pub loop-k-init : goal.loop-k-init
loop-k-init c = record {
  sum = none_added c.args.count c.args.diagonal.now c.args.above.now c.args.y.now c.args.vector.now;
  bound = omega arith;
  entries = let few = entries_few c.args.count c.requires.few in let e : c.args.count - 0 ≡ c.args.count = omega arith in rw e (omega arith);
}

pub loop-k-preserved : goal.loop-k-preserved
loop-k-preserved c =
    let k = c.loop-k.k in
    let below : k < c.args.count = omega arith in
    let point : Point = record { i = pos 0; q = pos 0 } in
    record {
      sum = row_added c.args.count k c.loop-k.from c.loop-k.total c.from-total.result _ c.args.diagonal.now c.args.above.now c.args.y.now
          c.args.vector.now point below c.requires.streams (c.from-total.ensures ∙ c.row_length.ensures.value) c.loop-k.invariant.sum;
      bound = omega arith;
      entries = entries-suc c.args.count k c.loop-k.from below c.loop-k.invariant.entries;
    }
