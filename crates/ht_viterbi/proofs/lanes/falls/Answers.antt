use Rattle.std.proofs.Common.{replicate, refl, w8}
use Rattle.ht_viterbi.proofs.LaneFacts.{select-from}
use Rattle.ht_viterbi.proofs.lanes.falls.Goals as goal

pub returns : goal.returns
returns c = select-from w8 128 c.args.differences c.args.differences (replicate 64 0) c.fits-differences.0 c.fits-differences.0 refl
