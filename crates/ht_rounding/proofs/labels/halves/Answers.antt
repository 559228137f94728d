use Rattle.std.proofs.Common.{◌/◌, ◌^◌}
use Rattle.ht_rounding.proofs.LaneFacts.{right-lanes}
use Rattle.ht_rounding.proofs.labels.halves.Goals as goal

pub returns : goal.returns
returns c = right-lanes (λ x n. x / 2 ^ n) 1 c.args.a c.fits-a.0
