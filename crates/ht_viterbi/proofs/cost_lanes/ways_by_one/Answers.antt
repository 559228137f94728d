use Rattle.std.proofs.Common.{refl, true}
use Rattle.ht_viterbi.specs.declared.cost_lanes.TheConstants.{AFTER_ONE, CODED_AT_ONE}
use Rattle.ht_viterbi.proofs.CostLanes.{after_one-at, coded_at_one, ways-are}
use Rattle.ht_viterbi.proofs.cost_lanes.ways_by_one.Goals as goal

pub returns : goal.returns
returns c = ways-are true AFTER_ONE CODED_AT_ONE c.args.costs c.args.pairs refl tt refl tt coded_at_one after_one-at c.fits-costs.0 c.requires
