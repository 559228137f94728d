use Rattle.ht_inverse.proofs.Descrambled.{sequence-on}
use Rattle.ht_inverse.proofs.inputs.sequence_next.Goals as goal

pub returns : goal.returns
returns c = λ seed t old new. sequence-on seed t c.args.before c.args.last c.ranges.before.fits old new
