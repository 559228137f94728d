use Rattle.std.proofs.Common.{◌∙◌, ◌%◌, ◌-◌, ℕ, List, ap, sym, subst, length, arith}
use Rattle.ht_viterbi.specs.Trellis.{StepCosts, least_from}
use Rattle.ht_viterbi.specs.Lanes.{HasLanes, steps_at}
use Rattle.ht_viterbi.proofs.Carried.{stretched}
use Rattle.ht_viterbi.proofs.LaneSteps.{lanes-start}
use Rattle.ht_viterbi.proofs.RowFacts.{steps-end}
use Rattle.ht_viterbi.proofs.Steps.{choices-none}
use Rattle.ht_viterbi.proofs.decoder.backwards.Goals as goal

pub stretch-costs-requires-clause-behind : goal.stretch-costs-requires-clause-behind
stretch-costs-requires-clause-behind c =
    let rows = c.args.rows.now in
    subst (λ (lanes : List ℕ). HasLanes lanes (λ k. least_from (steps_at rows (length rows)) k % 256)) (sym c.no_costs.ensures)
    (lanes-start (steps_at rows (length rows)) (steps-end rows (length rows) (omega arith)))

pub stretch-costs-requires-clause-chosen : goal.stretch-costs-requires-clause-chosen
stretch-costs-requires-clause-chosen c =
    choices-none _ _ (steps-end c.args.rows.now (length c.args.rows.now) (omega arith))

pub loop-at-init : goal.loop-at-init
loop-at-init c =
    let rows = c.args.rows.now in
    let steps = length rows in
    let tail = c.requires.tail in
    let costs = c.stretch-costs.ensures.costs in
    let least = least_from (steps_at rows (steps - 6)) 0 in
    let grows = (stretched rows (steps - 6) steps (omega arith) (omega arith)).0 in
    let none = ap (λ (ps : List StepCosts). least_from ps 0) (steps-end rows steps (omega arith)) in
    let same = c.carried-distance.ensures least (c.first_lane.ensures ∙ costs.lane 0 (omega arith)) (omega (arith, grows, none, tail)) (omega arith) in
    record {
      within = omega (arith, tail);
      count = c.stretch-costs.ensures.length ∙ c.requires.count;
      costs = costs;
      choices = c.stretch-costs.ensures.choices;
      distance = same;
      bound = omega (arith, same, grows, none, tail);
    }

pub loop-at-preserved : goal.loop-at-preserved
loop-at-preserved c =
    let rows = c.args.rows.now in
    let was = c.loop-at.invariant in
    let at = c.loop-at.at in
    let from = c.saturating_sub-from.result in
    let down = c.saturating_sub-from.ensures in
    let costs = c.stretch-costs-in-loop-at.ensures.costs in
    let moves = stretched rows from at (omega (arith, down)) (omega (arith, was.within)) in
    let grows = moves.0 in
    let falls = moves.1 in
    let same = c.carried-distance-in-loop-at.ensures (least_from (steps_at rows from) 0)
    (c.first_lane-in-loop-at.ensures ∙ costs.lane 0 (omega arith))
    (omega (arith, grows, was.distance, down)) (omega (arith, falls, was.distance)) in
    record {
      within = omega (arith, down, was.within);
      count = c.stretch-costs-in-loop-at.ensures.length ∙ was.count;
      costs = costs;
      choices = c.stretch-costs-in-loop-at.ensures.choices;
      distance = same;
      bound = omega (arith, same, grows, was.distance, was.bound, was.within, down);
    }
