use Rattle.ht_viterbi.proofs.CostLanes.{lesser-lanes}
use Rattle.ht_viterbi.proofs.cost_lanes.lesser.Goals as goal

pub returns : goal.returns
returns c = lesser-lanes c.args.zero c.args.one c.fits-zero.0 c.fits-one.0
