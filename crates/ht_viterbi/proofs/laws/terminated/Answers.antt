use Rattle.ht_viterbi.proofs.Orders.{zeros-end}
use Rattle.ht_viterbi.proofs.laws.terminated.Goals as goal

pub returns : goal.returns
returns c = zeros-end
