use Rattle.std.proofs.Common.{◌≡◌, ◌%◌, ◌↔◌, Bool, false, true, sym, subst}
use Rattle.std.specs.Int.{bit_at}
use Rattle.ht_viterbi.specs.Trellis.{way, chosen, lesser}
use Rattle.ht_viterbi.specs.Lanes.{HasLanes}
use Rattle.ht_viterbi.proofs.LaneSteps.{zero-lanes, ahead-lanes, choices-lanes, lesser-lanes, no-choices}
use Rattle.ht_viterbi.proofs.decoder.step.Goals as goal

pub returns-then-free-clause-costs : goal.returns-then-free-clause-costs
returns-then-free-clause-costs c = λ table pair light held zeros mores close.
    let zero_ways = zero-lanes c.args.costs c.args.zero c.after_zero.result
    c.sums-zero_ways.result table pair held zeros c.after_zero.ensures c.sums-zero_ways.ensures in
    let ahead = ahead-lanes c.args.costs c.with_one.result c.differences.result c.after_zero-apart.result c.args.more c.sums-ahead.result
    table pair light held c.with_one.ensures c.differences.ensures c.after_zero-apart.ensures mores c.sums-ahead.ensures in
    subst (λ (t : Bool). HasLanes c.sums.result (λ k. lesser t (way table pair k false) (way table pair k true) % 256)) (sym c.if-free.true)
    (lesser-lanes c.sums-zero_ways.result c.sums-ahead.result c.falls.result c.sums.result
    table pair zero_ways ahead close c.falls.ensures c.sums.ensures)

pub returns-then-free-clause-choices : goal.returns-then-free-clause-choices
returns-then-free-clause-choices c = λ table pair light held zeros mores close k lt.
    let ahead = ahead-lanes c.args.costs c.with_one.result c.differences.result c.after_zero-apart.result c.args.more c.sums-ahead.result
    table pair light held c.with_one.ensures c.differences.ensures c.after_zero-apart.ensures mores c.sums-ahead.ensures in
    subst (λ (t : Bool). (bit_at c.negative.result k ≡ 1) ↔ (chosen t (way table pair k false) (way table pair k true) ≡ true)) (sym c.if-free.true)
    (choices-lanes c.sums-ahead.result c.negative.result table pair ahead close c.negative.ensures k lt)

pub returns-else-free-clause-costs : goal.returns-else-free-clause-costs
returns-else-free-clause-costs c = λ table pair light held zeros mores close.
    subst (λ (t : Bool). HasLanes c.sums-zero_ways.result (λ k. lesser t (way table pair k false) (way table pair k true) % 256)) (sym c.if-free.false)
    (zero-lanes c.args.costs c.args.zero c.after_zero.result c.sums-zero_ways.result table pair held zeros c.after_zero.ensures c.sums-zero_ways.ensures)

pub returns-else-free-clause-choices : goal.returns-else-free-clause-choices
returns-else-free-clause-choices c = λ table pair light held zeros mores close k lt.
    subst (λ (t : Bool). (bit_at 0 k ≡ 1) ↔ (chosen t (way table pair k false) (way table pair k true) ≡ true)) (sym c.if-free.false)
    (no-choices (way table pair k false) (way table pair k true) k)
