use Rattle.std.proofs.Common.{◌*◌, false, true, arith}
use Rattle.ht_viterbi.specs.Lanes.{heaviest}
use Rattle.ht_viterbi.proofs.CostLanes.{pair-light}
use Rattle.ht_viterbi.proofs.cost_lanes.pair_costs.Goals as goal

pub overflow_add-result : goal.overflow_add-result
overflow_add-result c = omega (arith, pair-light (2 * heaviest) c.args.step c.requires false false)

pub overflow_add-result-2 : goal.overflow_add-result-2
overflow_add-result-2 c = omega (arith, pair-light (2 * heaviest) c.args.step c.requires false true)

pub overflow_add-result-3 : goal.overflow_add-result-3
overflow_add-result-3 c = omega (arith, pair-light (2 * heaviest) c.args.step c.requires true false)

pub overflow_add-result-4 : goal.overflow_add-result-4
overflow_add-result-4 c = omega (arith, pair-light (2 * heaviest) c.args.step c.requires true true)
