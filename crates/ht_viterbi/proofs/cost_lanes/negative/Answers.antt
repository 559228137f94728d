use Rattle.std.proofs.Common.{◌^◌, w32}
use Rattle.ht_viterbi.proofs.LaneFacts.{mask-bits}
use Rattle.ht_viterbi.proofs.cost_lanes.negative.Goals as goal

pub returns : goal.returns
returns c = mask-bits w32 (2 ^ 31) c.args.differences c.fits-differences.0
