use Rattle.std.proofs.Common.{rules}
use Rattle.ht_fields.proofs.LowOctets.{low-more}
use Rattle.ht_fields.proofs.low.low_count.Goals as goal

pub loop-count-preserved : goal.loop-count-preserved
loop-count-preserved c = record {
  within = search rules;
  low = low-more c.args.octets.now c.args.last c.loop-count.count (search rules) c.loop-count.invariant.low (search rules);
}
