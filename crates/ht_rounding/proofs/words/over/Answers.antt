use Rattle.ht_rounding.proofs.LaneFacts.{over-lanes}
use Rattle.ht_rounding.proofs.words.over.Goals as goal

pub returns : goal.returns
returns c = over-lanes c.args.a c.args.b c.fits-a.0 c.fits-b.0
