use Rattle.std.proofs.Common.{◌+◌, ◌-◌, ◌%◌}
use Rattle.ht_viterbi.proofs.LaneFacts.{zip2-lanes}
use Rattle.ht_viterbi.proofs.lanes.differences.Goals as goal

pub returns : goal.returns
returns c = zip2-lanes (λ a b. (a + (256 - b)) % 256) c.args.a c.args.b c.fits-a.0 c.fits-b.0
