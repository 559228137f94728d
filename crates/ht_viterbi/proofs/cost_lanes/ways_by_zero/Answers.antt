use Rattle.std.proofs.Common.{refl, false}
use Rattle.ht_viterbi.specs.declared.cost_lanes.TheConstants.{CODED_AT_ZERO}
use Rattle.ht_viterbi.specs.declared.lanes.TheConstants.{AFTER_ZERO}
use Rattle.ht_viterbi.proofs.CostLanes.{coded_at_zero, ways-are}
use Rattle.ht_viterbi.proofs.LaneFacts.{after_zero-at}
use Rattle.ht_viterbi.proofs.cost_lanes.ways_by_zero.Goals as goal

pub returns : goal.returns
returns c = ways-are false AFTER_ZERO CODED_AT_ZERO c.args.costs c.args.pairs refl tt refl tt coded_at_zero after_zero-at c.fits-costs.0 c.requires
