use Rattle.ht_rate.proofs.RateFacts.{encoders_of-range}
use Rattle.ht_inverse.proofs.table.Table.of.Goals as goal

pub of-requires : goal.of-requires
of-requires c = (encoders_of-range c.args.rate.now).0
