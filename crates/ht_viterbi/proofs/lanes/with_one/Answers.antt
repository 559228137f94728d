use Rattle.std.proofs.Common.{◌+◌, ◌%◌, refl}
use Rattle.ht_viterbi.specs.declared.lanes.TheConstants.{WITH_ONE}
use Rattle.ht_viterbi.proofs.LaneFacts.{pick-lanes, with_one-at}
use Rattle.ht_viterbi.proofs.lanes.with_one.Goals as goal

pub returns : goal.returns
returns c = pick-lanes 64 c.args.costs WITH_ONE (λ k. k % 32 + 32) c.fits-costs.0 refl tt with_one-at
