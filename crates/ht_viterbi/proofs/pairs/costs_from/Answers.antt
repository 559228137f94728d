use Rattle.std.proofs.Common.{Bool, ◌≤◌, ◌^◌, sym, subst}
use Rattle.ht_viterbi.specs.declared.bit_costs.BitCosts.{BitCosts}
use Rattle.ht_viterbi.specs.Trellis.{bit_cost}
use Rattle.ht_viterbi.proofs.Steps.{branch-few, free-few}
use Rattle.ht_viterbi.proofs.pairs.costs_from.Goals as goal

pub returns-in-Both-clause-bound : goal.returns-in-Both-clause-bound
returns-in-Both-clause-bound g c = branch-few (2 ^ 32) c.at.result c.at-in-Both.result c.at.ensures.bound c.at-in-Both.ensures.bound

pub returns-in-A-clause-bound : goal.returns-in-A-clause-bound
returns-in-A-clause-bound g c =
    branch-few (2 ^ 32) c.at-in-A.result c.free.result c.at-in-A.ensures.bound
    (subst (λ (costs : BitCosts). (bit : Bool) → bit_cost costs bit ≤ 2 ^ 32) (sym c.free.ensures) (free-few (2 ^ 32)))

pub returns-in-B-clause-bound : goal.returns-in-B-clause-bound
returns-in-B-clause-bound g c =
    branch-few (2 ^ 32) c.free-in-B.result c.at-in-B.result
    (subst (λ (costs : BitCosts). (bit : Bool) → bit_cost costs bit ≤ 2 ^ 32) (sym c.free-in-B.ensures) (free-few (2 ^ 32))) c.at-in-B.ensures.bound
