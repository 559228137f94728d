use Rattle.std.proofs.Common.{w8}
use Rattle.ht_viterbi.proofs.LaneFacts.{mask-bits}
use Rattle.ht_viterbi.proofs.lanes.negative.Goals as goal

pub returns : goal.returns
returns c = mask-bits w8 128 c.args.differences c.fits-differences.0
