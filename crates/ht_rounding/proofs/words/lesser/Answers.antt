use Rattle.std.proofs.Common.{ltb, w32}
use Rattle.ht_rounding.proofs.LaneFacts.{chosen-lanes}
use Rattle.ht_rounding.proofs.words.lesser.Goals as goal

pub returns : goal.returns
returns c = chosen-lanes w32 ltb c.args.a c.args.b c.args.a c.args.b c.fits-a.0 c.fits-b.0 c.fits-a.0 c.fits-b.0
