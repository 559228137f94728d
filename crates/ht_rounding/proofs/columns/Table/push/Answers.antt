use Rattle.ht_rounding.proofs.InColumns.{plain-more}
use Rattle.ht_rounding.proofs.columns.Table.push.Goals as goal

pub returns-clause-more : goal.returns-clause-more
returns-clause-more c jobs are = record {
  some = are.some;
  few = are.few;
  first = c.in_ok-push_row.ensures jobs are.first;
  second = c.in_ok-push_row-2.ensures jobs are.second;
  third = c.in_ok-push_row-3.ensures jobs are.third;
  fourth = c.in_ok-push_row-4.ensures jobs are.fourth;
  plain = plain-more _ _ _ _ _ jobs _ _ c.args.job.now c.plainness.result c.requires c.levels_by-i.ensures.i c.levels_by-i.ensures.q
      c.plainness.ensures c.in_ok-push.ensures.items are.plain;
}
