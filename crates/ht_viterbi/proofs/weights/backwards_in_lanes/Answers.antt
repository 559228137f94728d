use Rattle.std.proofs.Common.{◌-◌, length, drop, map, arith}
use Rattle.ht_viterbi.specs.Inputs.{weight_cost}
use Rattle.ht_viterbi.specs.Trellis.{costs_of}
use Rattle.ht_viterbi.proofs.Steps.{costs-start, choices-start, zero-at}
use Rattle.ht_viterbi.proofs.weights.backwards_in_lanes.Goals as goal

pub stretch-ended-requires-clause-behind : goal.stretch-ended-requires-clause-behind
stretch-ended-requires-clause-behind c =
    let steps = length c.args.choices.now in
    let places = map (costs_of weight_cost) c.args.weights.now in
    record {
      costs = λ k lt. omega (arith, costs-start c.args.pattern places steps c.no_costs.result c.no_costs.ensures k lt);
      low = omega (arith, zero-at c.no_costs.ensures 0);
      bound = omega (arith, zero-at c.no_costs.ensures 0);
    }

pub stretch-ended-requires-clause-chosen : goal.stretch-ended-requires-clause-chosen
stretch-ended-requires-clause-chosen c =
    let steps = length c.args.choices.now in
    choices-start c.args.pattern (map (costs_of weight_cost) c.args.weights.now) steps (drop steps c.args.choices.now)

pub stretch-fallen-requires-clause-before : goal.stretch-fallen-requires-clause-before
stretch-fallen-requires-clause-before c = λ e some. omega (arith, c.saturating_sub-tail.ensures, some)
