use Rattle.std.proofs.Common.{arith}
use Rattle.ht_viterbi.proofs.Turns.{distance-low}
use Rattle.ht_viterbi.proofs.plain.plain_decode.Goals as goal

pub overflow_cast-result : goal.overflow_cast-result
overflow_cast-result c =
    let low = distance-low c.args.pattern c.args.received.now c.in_ok-nearest.nearest.input c.args.steps c.requires.received in
    omega (arith, low, c.in_ok-nearest.ensures.cost, c.requires.most)
