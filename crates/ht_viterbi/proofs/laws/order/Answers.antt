use Rattle.ht_viterbi.proofs.Orders.{input-order}
use Rattle.ht_viterbi.proofs.laws.order.Goals as goal

pub returns : goal.returns
returns c = input-order
