use Rattle.std.proofs.Common.{false}
use Rattle.ht_viterbi.specs.Trellis.{branch_cost}
use Rattle.ht_viterbi.proofs.RowFacts.{in-order}
use Rattle.ht_viterbi.proofs.branches.costs_of_zero.Goals as goal

pub returns : goal.returns
returns c =
    in-order (λ step k. branch_cost step k false) c.costs_of_pair.result c.costs_of_pair-2.result c.costs_of_pair-3.result
    c.costs_of_pair-4.result c.costs_of_pair-5.result
    c.costs_of_pair-6.result c.costs_of_pair-7.result
    c.costs_of_pair-8.result c.costs_of_pair-9.result
    c.costs_of_pair.ensures c.costs_of_pair-2.ensures c.costs_of_pair-3.ensures c.costs_of_pair-4.ensures c.costs_of_pair-5.ensures
    c.costs_of_pair-6.ensures c.costs_of_pair-7.ensures c.costs_of_pair-8.ensures c.costs_of_pair-9.ensures
