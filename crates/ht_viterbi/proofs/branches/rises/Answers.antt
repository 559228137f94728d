use Rattle.ht_viterbi.specs.Lanes.{rise}
use Rattle.ht_viterbi.proofs.RowFacts.{in-order}
use Rattle.ht_viterbi.proofs.branches.rises.Goals as goal

pub returns : goal.returns
returns c =
    in-order rise c.rises_of_pair.result c.rises_of_pair-2.result c.rises_of_pair-3.result c.rises_of_pair-4.result c.rises_of_pair-5.result
    c.rises_of_pair-6.result c.rises_of_pair-7.result c.rises_of_pair-8.result c.rises_of_pair-9.result
    c.rises_of_pair.ensures c.rises_of_pair-2.ensures c.rises_of_pair-3.ensures c.rises_of_pair-4.ensures c.rises_of_pair-5.ensures
    c.rises_of_pair-6.ensures c.rises_of_pair-7.ensures c.rises_of_pair-8.ensures c.rises_of_pair-9.ensures
