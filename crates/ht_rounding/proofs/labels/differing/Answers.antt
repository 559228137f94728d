use Rattle.std.specs.Prelude.{bit_xor}
use Rattle.ht_rounding.proofs.LaneFacts.{both-lanes}
use Rattle.ht_rounding.proofs.labels.differing.Goals as goal

pub returns : goal.returns
returns c = both-lanes bit_xor c.args.a c.args.b c.fits-a.0 c.fits-b.0
