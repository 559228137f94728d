use Rattle.ht_rounding.proofs.LaneFacts.{turned-lanes}
use Rattle.ht_rounding.proofs.words.turned.Goals as goal

pub returns : goal.returns
returns c = turned-lanes c.args.sign c.args.a c.fits-sign.0 c.fits-a.0
