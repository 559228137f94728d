use Rattle.std.proofs.Common.{◌≡◌, ◌∙◌, ℕ, ◌+◌, ◌<◌, ◌≢◌, List, length, set, slice_index, ap, sym, subst, arith, rules, get_or-set_other, get_or-set_same}
use Rattle.std.proofs.Common.{below_more}
use Rattle.ht_viterbi.specs.Lanes.{IsLight}
use Rattle.ht_viterbi.specs.Trellis.{StepCosts, branch_cost}
use Rattle.ht_viterbi.proofs.RowFacts.{hard-light}
use Rattle.ht_viterbi.proofs.branches.costs_of_pair.Goals as goal

-- one more lane
more : (f : ℕ → ℕ) (costs : List ℕ) (at cost : ℕ) → at < length costs → cost ≡ f at → ((k : ℕ) → k < at → slice_index costs k ≡ f k)
    → (k : ℕ) → k < at + 1 → slice_index (set costs at cost) k ≡ f k
more f costs at cost within is was =
    below_more _ _
    (λ k h. let other : k ≢ at = omega arith in get_or-set_other costs at k cost 0 other ∙ was k h)
    (get_or-set_same costs at cost 0 within ∙ is)

pub loop-state-preserved : goal.loop-state-preserved
loop-state-preserved c =
    let was = c.loop-state.invariant in
    record {
      count = search rules;
      lane =
          more _ c.loop-state.costs c.loop-state.state c.cost_of_branch.result (omega (arith, was.count)) c.cost_of_branch.ensures.value was.lane;
    }

-- a hard step costs little
pub overflow_cast-costs : goal.overflow_cast-costs
overflow_cast-costs c =
    let light : IsLight 2 c.costs_at-step.result = subst (IsLight 2) (sym c.costs_at-step.ensures) (hard-light c.args.pair) in
    omega (arith, light c.loop-state.state c.args.bit, c.cost_of_branch.ensures.value)

pub returns : goal.returns
returns c =
    let was = c.loop-state.invariant in
    record {
      count = was.count;
      lane = λ k lt. was.lane k (omega arith) ∙ ap (λ (step : StepCosts). branch_cost step k c.args.bit) c.costs_at-step.ensures;
    }
