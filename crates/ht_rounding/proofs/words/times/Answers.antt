use Rattle.std.proofs.Common.{◌*◌, ◌%◌, ◌^◌}
use Rattle.ht_rounding.proofs.LaneFacts.{right-lanes}
use Rattle.ht_rounding.proofs.words.times.Goals as goal

pub returns : goal.returns
returns c = right-lanes (λ x y. (x * y) % 2 ^ 32) c.args.n c.args.a c.fits-a.0
