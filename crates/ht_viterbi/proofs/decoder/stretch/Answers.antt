use Rattle.std.proofs.Common.{◌-◌, false, length, slice_index, arith, rules}
use Rattle.ht_viterbi.specs.Trellis.{branch_cost, least_from}
use Rattle.ht_viterbi.specs.Lanes.{pair_of_number, rise, row_costs, steps_at}
use Rattle.ht_viterbi.proofs.LaneSteps.{lanes-step, chosen-lanes}
use Rattle.ht_viterbi.proofs.RowFacts.{free-known, hard-light, light-steps, steps-before, steps-length}
use Rattle.ht_viterbi.proofs.Spread.{ways-close}
use Rattle.ht_viterbi.proofs.Steps.{choices-step}
use Rattle.ht_viterbi.proofs.decoder.stretch.Goals as goal

pub loop-at-preserved : goal.loop-at-preserved
loop-at-preserved c =
    let rows = c.args.rows.now in
    let at = c.loop-at.at in
    let was = c.loop-at.invariant in
    let within = c.requires.within in
    let test = c.loop-at-test.true in
    let pair = row_costs (slice_index rows (at - 1)) in
    let pairs = steps_at rows at in
    let cons = steps-before rows at (omega (arith, test)) (omega (arith, was.high, within)) in
    let left = steps-length rows at in
    let free = free-known c.args.free (length pairs)
    (λ e. omega (arith, left, c.requires.tail e, test)) (λ e. omega (arith, left, c.requires.before e, was.high)) in
    let zeros = c.lanes_of.ensures (λ step k. branch_cost step k false) c.requires.zeros in
    let mores = c.lanes_of-in-loop-at.ensures rise c.requires.rises in
    let light = hard-light (pair_of_number (slice_index rows (at - 1))) in
    let close = ways-close pairs pair (light, light-steps rows at) in
    record {
      low = omega (arith, test);
      high = omega (arith, was.high);
      count = search rules;
      costs = lanes-step _ pairs c.step-word.result.0 c.args.free pair cons free
          (c.step-word.ensures.costs (least_from pairs) pair light was.costs zeros mores close);
      choices = choices-step _ pairs c.loop-at.choices (at - 1) at c.step-word.result.1 pair cons (omega (arith, test))
          (omega (arith, was.count, was.high, within, test))
          (chosen-lanes pairs c.step-word.result.1 c.args.free pair free
          (c.step-word.ensures.choices (least_from pairs) pair light was.costs zeros mores close)) was.choices;
    }
