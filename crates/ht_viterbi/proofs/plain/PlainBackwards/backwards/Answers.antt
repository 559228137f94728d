use Rattle.std.proofs.Common.{◌≡◌, ◌∙◌, ◌+◌, ◌-◌, ◌*◌, ◌^◌, nat_lt, length, drop, map, slice_index, ap, arith, rules}
use Rattle.ht_conv.specs.Puncturing.{sent_count}
use Rattle.ht_viterbi.specs.Trellis.{costs_of, steps_from}
use Rattle.ht_viterbi.proofs.Steps.{start-within, pair-back, free-back, costs-start, choices-start}
use Rattle.ht_viterbi.proofs.Steps.{costs-step, choices-step, chosen-step, bound-step, zero-at}
use Rattle.ht_viterbi.proofs.plain.PlainBackwards.backwards.Goals as goal

pub loop-at-init : goal.loop-at-init
loop-at-init g c =
    let steps = length c.args.choices.now in
    let places = map (costs_of g.P.CodedPlace.cost) c.args.received.now in
    record {
      within = omega arith;
      count = search rules;
      start = c.requires.count;
      costs = costs-start c.args.pattern places steps c.no_costs-costs.result c.no_costs-costs.ensures;
      choices = choices-start c.args.pattern places steps (drop steps c.args.choices.now);
      bound = λ k. omega (arith, zero-at c.no_costs-costs.ensures k);
    }

pub step_at-branches-requires-clause-start : goal.step_at-branches-requires-clause-start
step_at-branches-requires-clause-start g c =
    let test = c.loop-at-test.true in
    let same : c.loop-at.at ≡ c.loop-at.at - 1 + 1 = omega arith in
    c.loop-at.invariant.start ∙ ap (sent_count c.args.pattern) same

pub step_at-branches-requires-clause-within : goal.step_at-branches-requires-clause-within
step_at-branches-requires-clause-within g c =
    let was = c.loop-at.invariant in
    start-within c.args.pattern (length c.args.choices.now) c.loop-at.at c.loop-at.start (length c.args.received.now) was.within was.start c.requires.count

pub loop-at-preserved : goal.loop-at-preserved
loop-at-preserved g c =
    let steps = length c.args.choices.now in
    let at = c.loop-at.at in
    let was = c.loop-at.invariant in
    let places = map (costs_of g.P.CodedPlace.cost) c.args.received.now in
    let cons = pair-back c.args.pattern places steps at c.step_at-branches.result c.loop-at-test.true was.within c.step_at-branches.ensures.value in
    let free = free-back c.args.pattern places steps at c.loop-at-test.true was.within in
    let pairs = steps_from c.args.pattern places at (steps - at) in
    let all = steps_from c.args.pattern places (at - 1) (steps - (at - 1)) in
    let bound = bound-step c.step.new.into c.loop-at.costs (nat_lt 6 (steps - (at - 1))) c.step_at-branches.result (2 ^ 33 * (steps - at)) (2 ^ 33)
    (search rules)
    was.bound c.step_at-branches.ensures.bound c.step.ensures.costs in
    record {
      within = omega arith;
      count = search rules;
      start = c.step_at-branches.ensures.start;
      costs = costs-step all pairs (slice_index c.loop-at.costs) (slice_index c.step.new.into)
          (nat_lt 6 (steps - (at - 1))) c.step_at-branches.result cons free was.costs c.step.ensures.costs;
      choices = choices-step all pairs c.loop-at.choices (at - 1) at c.step.result c.step_at-branches.result cons (omega arith) (omega arith)
          (chosen-step pairs c.step.result (slice_index c.loop-at.costs)
          (nat_lt 6 (steps - (at - 1))) c.step_at-branches.result free was.costs c.step.ensures.choices) was.choices;
      bound = λ k. omega (arith, bound k);
    }
