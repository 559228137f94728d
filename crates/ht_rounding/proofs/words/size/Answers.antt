use Rattle.ht_rounding.proofs.LaneFacts.{size-lanes}
use Rattle.ht_rounding.proofs.words.size.Goals as goal

pub returns : goal.returns
returns c = size-lanes c.args.a c.fits-a.0
