use Rattle.std.proofs.Common.{◌+◌, ◌%◌, ◌^◌}
use Rattle.ht_rounding.proofs.LaneFacts.{both-lanes}
use Rattle.ht_rounding.proofs.words.plus.Goals as goal

pub returns : goal.returns
returns c = both-lanes (λ x y. (x + y) % 2 ^ 32) c.args.a c.args.b c.fits-a.0 c.fits-b.0
