use Rattle.std.proofs.Common.{◌≡◌, ◌↔◌, Bool, false, true, slice_index, sym, subst}
use Rattle.std.specs.Int.{bit_at}
use Rattle.ht_viterbi.specs.Lanes.{HasLanes}
use Rattle.ht_viterbi.specs.Trellis.{way, chosen, lesser}
use Rattle.ht_viterbi.proofs.LaneSteps.{no-choices}
use Rattle.ht_viterbi.proofs.Raised.{choices-lanes, lesser-ways}
use Rattle.ht_viterbi.proofs.weights.step.Goals as goal

pub returns-then-free-clause-costs : goal.returns-then-free-clause-costs
returns-then-free-clause-costs c =
    subst (λ (t : Bool). HasLanes c.lesser.result
    (λ k. lesser t (way (slice_index c.args.costs) c.args.branches k false) (way (slice_index c.args.costs) c.args.branches k true)))
    (sym c.if-free.true)
    (lesser-ways c.args.costs c.ways_by_zero-zero_ways.result c.ways_by_one-one_ways.result c.lesser.result c.args.branches
    (c.ways_by_zero-zero_ways.ensures c.args.branches c.requires.light c.pair_costs-pairs.ensures)
    (c.ways_by_one-one_ways.ensures c.args.branches c.requires.light c.pair_costs-pairs.ensures) c.lesser.ensures)

pub returns-then-free-clause-choices : goal.returns-then-free-clause-choices
returns-then-free-clause-choices c = λ k lt.
    subst (λ (t : Bool). (bit_at c.negative.result k ≡ 1) ↔
    (chosen t (way (slice_index c.args.costs) c.args.branches k false) (way (slice_index c.args.costs) c.args.branches k true) ≡ true))
    (sym c.if-free.true)
    (choices-lanes c.args.costs c.ways_by_zero-zero_ways.result c.ways_by_one-one_ways.result c.differences.result c.negative.result c.args.branches
    c.requires.room c.requires.light (c.ways_by_zero-zero_ways.ensures c.args.branches c.requires.light c.pair_costs-pairs.ensures)
    (c.ways_by_one-one_ways.ensures c.args.branches c.requires.light c.pair_costs-pairs.ensures) c.differences.ensures c.negative.ensures k lt)

pub returns-else-free-clause-costs : goal.returns-else-free-clause-costs
returns-else-free-clause-costs c =
    subst (λ (t : Bool). HasLanes c.ways_by_zero-zero_ways.result
    (λ k. lesser t (way (slice_index c.args.costs) c.args.branches k false) (way (slice_index c.args.costs) c.args.branches k true)))
    (sym c.if-free.false) (c.ways_by_zero-zero_ways.ensures c.args.branches c.requires.light c.pair_costs-pairs.ensures)

pub returns-else-free-clause-choices : goal.returns-else-free-clause-choices
returns-else-free-clause-choices c = λ k lt.
    subst (λ (t : Bool). (bit_at 0 k ≡ 1) ↔ (chosen t (way (slice_index c.args.costs) c.args.branches k false)
    (way (slice_index c.args.costs) c.args.branches k true) ≡ true))
    (sym c.if-free.false) (no-choices (way (slice_index c.args.costs) c.args.branches k false) (way (slice_index c.args.costs) c.args.branches k true) k)
