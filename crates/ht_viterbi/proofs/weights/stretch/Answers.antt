use Rattle.std.proofs.Common.{◌≡◌, ◌≤◌, ◌<◌, ◌+◌, ◌-◌, ◌*◌, ◌^◌, ◌∷◌, ℕ, length, drop, map, slice_index, ap, sym, ◌∙◌, subst, arith, rules}
use Rattle.ht_conv.specs.Puncturing.{kept_of, sent_count}
use Rattle.ht_viterbi.specs.Inputs.{weight_cost}
use Rattle.ht_viterbi.specs.Lanes.{IsLight, heaviest, weight_steps}
use Rattle.ht_viterbi.specs.Trellis.{StepCosts, costs_of, is_free, least_from}
use Rattle.ht_viterbi.proofs.Raised.{first-near, have-room, near, raised-choices, raised-costs, step-light, steps-light}
use Rattle.ht_viterbi.proofs.RowFacts.{free-known}
use Rattle.ht_viterbi.proofs.Sending.{length-pairs}
use Rattle.ht_viterbi.proofs.Steps.{start-within, pair-back, choices-step}
use Rattle.ht_viterbi.proofs.weights.stretch.Goals as goal

pub step_at-branches-requires-clause-start : goal.step_at-branches-requires-clause-start
step_at-branches-requires-clause-start c =
    let test = c.loop-at-test.true in
    let same : c.loop-at.at ≡ c.loop-at.at - 1 + 1 = omega arith in
    c.loop-at.invariant.start ∙ ap (sent_count c.args.pattern) same

pub step_at-branches-requires-clause-within : goal.step_at-branches-requires-clause-within
step_at-branches-requires-clause-within c =
    let was = c.loop-at.invariant in
    start-within c.args.pattern (length c.args.choices.now) c.loop-at.at c.loop-at.start (length c.args.weights.now)
    (omega (arith, was.high, c.requires.within)) was.start c.requires.count

pub step-word-requires-clause-room : goal.step-word-requires-clause-room
step-word-requires-clause-room c =
    let was = c.loop-at.invariant.costs in
    have-room _ c.loop-at.costs c.loop-at.fallen
    (steps-light c.args.pattern c.args.weights.now c.loop-at.at (length c.args.choices.now - c.loop-at.at) c.requires.light) was.costs was.low

pub step-word-requires-clause-light : goal.step-word-requires-clause-light
step-word-requires-clause-light c =
    let at = c.loop-at.at - 1 in
    subst (λ (step : StepCosts). IsLight (2 * heaviest) step) (sym c.step_at-branches.ensures.value)
    (step-light (kept_of c.args.pattern at) c.args.weights.now (sent_count c.args.pattern at) c.requires.light)

-- the steps of one more step than before
cons-is : (c : goal.After-next-1) → weight_steps c.args.pattern c.args.weights.now (length c.args.choices.now) (c.loop-at.at - 1)
    ≡ c.step_at-branches.result ∷ weight_steps c.args.pattern c.args.weights.now (length c.args.choices.now) c.loop-at.at
cons-is c =
    pair-back c.args.pattern (map (costs_of weight_cost) c.args.weights.now) (length c.args.choices.now) c.loop-at.at c.step_at-branches.result
    (omega (arith, c.loop-at-test.true)) (omega (arith, c.loop-at.invariant.high, c.requires.within)) c.step_at-branches.ensures.value

-- whether a 1 may be taken in it
free-is : (c : goal.After-next-1) → c.args.free
    ≡ is_free (length (weight_steps c.args.pattern c.args.weights.now (length c.args.choices.now) c.loop-at.at))
free-is c =
    let was = c.loop-at.invariant in
    let test = c.loop-at-test.true in
    let left = length-pairs c.args.pattern (map (costs_of weight_cost) c.args.weights.now) c.loop-at.at (length c.args.choices.now - c.loop-at.at) in
    free-known c.args.free _ (λ e. omega (arith, left, c.requires.tail e, test))
    (λ e. omega (arith, left, c.requires.before e (omega (arith, test, was.high)), was.high))

-- the costs of the step, before they are lowered
costs-are : (c : goal.After-next-1) → (k : ℕ) → k < 64 → slice_index c.step-word.result.0 k + c.loop-at.fallen
    ≡ least_from (weight_steps c.args.pattern c.args.weights.now (length c.args.choices.now) (c.loop-at.at - 1)) k
costs-are c =
    raised-costs _ _ (slice_index c.loop-at.costs) c.loop-at.fallen c.args.free c.step_at-branches.result (slice_index c.step-word.result.0) (cons-is c)
    (free-is c) c.loop-at.invariant.costs.costs c.step-word.ensures.costs.lane

pub lowered-fall-requires-clause-close : goal.lowered-fall-requires-clause-close
lowered-fall-requires-clause-close c = λ k lt.
    near _ (slice_index c.step-word.result.0) c.loop-at.fallen
    (steps-light c.args.pattern c.args.weights.now (c.loop-at.at - 1) (length c.args.choices.now - (c.loop-at.at - 1)) c.requires.light)
    (costs-are c) 0 k (omega arith) lt

-- the cost of state 0 grows little
grows-by : (c : goal.After-next-1) → slice_index c.step-word.result.0 0 ≤ slice_index c.loop-at.costs 0 + 2 ^ 17
grows-by c =
    first-near _ _ c.step_at-branches.result (slice_index c.loop-at.costs) (slice_index c.step-word.result.0) c.loop-at.fallen (cons-is c)
    (steps-light c.args.pattern c.args.weights.now (c.loop-at.at - 1) (length c.args.choices.now - (c.loop-at.at - 1)) c.requires.light)
    c.loop-at.invariant.costs.costs (costs-are c)

pub lowered-fall-requires-clause-few : goal.lowered-fall-requires-clause-few
lowered-fall-requires-clause-few c = omega (arith, grows-by c, c.loop-at.invariant.costs.low)

pub loop-at-preserved : goal.loop-at-preserved
loop-at-preserved c =
    let steps = length c.args.choices.now in
    let at = c.loop-at.at in
    let was = c.loop-at.invariant in
    let test = c.loop-at-test.true in
    let within = c.requires.within in
    let places = map (costs_of weight_cost) c.args.weights.now in
    let pairs = weight_steps c.args.pattern c.args.weights.now steps at in
    let all = weight_steps c.args.pattern c.args.weights.now steps (at - 1) in
    let cons = pair-back c.args.pattern places steps at c.step_at-branches.result (omega (arith, test)) (omega (arith, was.high, within))
    c.step_at-branches.ensures.value in
    let left = length-pairs c.args.pattern places at (steps - at) in
    let free = free-known c.args.free (length pairs) (λ e. omega (arith, left, c.requires.tail e, test))
    (λ e. omega (arith, left, c.requires.before e (omega (arith, test, was.high)), was.high)) in
    let now = raised-costs all pairs (slice_index c.loop-at.costs) c.loop-at.fallen c.args.free c.step_at-branches.result
    (slice_index c.step-word.result.0) cons free was.costs.costs c.step-word.ensures.costs.lane in
    let grows = first-near all pairs c.step_at-branches.result (slice_index c.loop-at.costs) (slice_index c.step-word.result.0) c.loop-at.fallen cons
    (steps-light c.args.pattern c.args.weights.now (at - 1) (steps - (at - 1)) c.requires.light) was.costs.costs now in
    record {
      low = omega (arith, test);
      high = omega (arith, was.high);
      count = search rules;
      start = c.step_at-branches.ensures.start;
      costs = record {
        costs = λ k lt. omega (arith, now k lt, c.lowered-fall.ensures.costs k lt);
        low = c.lowered-fall.ensures.low;
        bound = omega (arith, grows, was.costs.bound, c.lowered-fall.ensures.costs 0 (omega arith), test, was.high, within);
      };
      choices = choices-step all pairs c.loop-at.choices (at - 1) at c.step-word.result.1 c.step_at-branches.result cons (omega (arith, test))
          (omega (arith, was.count, was.high, within, test))
          (raised-choices all pairs (slice_index c.loop-at.costs) c.loop-at.fallen c.args.free c.step_at-branches.result
          c.step-word.result.1 free was.costs.costs c.step-word.ensures.choices) was.choices;
    }
