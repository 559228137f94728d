use Rattle.std.proofs.Common.{◌+◌, ◌%◌, ◌^◌}
use Rattle.ht_rounding.proofs.LaneFacts.{left-lanes}
use Rattle.ht_rounding.proofs.words.raised.Goals as goal

pub returns : goal.returns
returns c = left-lanes (λ x y. (x + y) % 2 ^ 32) c.args.n c.args.a c.fits-a.0
