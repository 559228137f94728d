use Rattle.std.proofs.Common.{w8, w64, arith}
use Rattle.ht_metric.proofs.Signs.{passed_within}
use Rattle.ht_metric.proofs.rows.row_length.Goals as goal

pub stretched-requires : goal.stretched-requires
stretched-requires c = passed_within w8 c.args.x.i 7 c.requires.level.i (omega arith)

pub stretched-requires-2 : goal.stretched-requires-2
stretched-requires-2 c = passed_within w8 c.args.x.q 7 c.requires.level.q (omega arith)

pub remaining-re-requires-clause-combined : goal.remaining-re-requires-clause-combined
remaining-re-requires-clause-combined c = passed_within w64 c.combine-sum.result.re 1376256 c.combine-sum.ensures.re_bound (omega arith)

pub remaining-im-requires-clause-combined : goal.remaining-im-requires-clause-combined
remaining-im-requires-clause-combined c = passed_within w64 c.combine-sum.result.im 1376256 c.combine-sum.ensures.im_bound (omega arith)
