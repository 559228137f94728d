use Rattle.ht_nearest.proofs.Bests as bests
use Rattle.ht_viterbi.specs.Inputs.{is_terminated, is_before, distance}
use Rattle.ht_viterbi.proofs.Orders.{input-order}
use Rattle.ht_viterbi.proofs.laws.unique.Goals as goal

pub returns : goal.returns
returns c = λ steps p received u v. bests.unique (is_terminated steps) (distance p received) is_before (input-order steps) u v
