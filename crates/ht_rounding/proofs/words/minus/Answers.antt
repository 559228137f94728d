use Rattle.ht_rounding.specs.Words.{minus}
use Rattle.ht_rounding.proofs.LaneFacts.{both-lanes}
use Rattle.ht_rounding.proofs.words.minus.Goals as goal

pub returns : goal.returns
returns c = both-lanes minus c.args.a c.args.b c.fits-a.0 c.fits-b.0
