use Rattle.std.proofs.Common.{arith}
use Rattle.ht_rounding.proofs.OnlyLemmas.{only_next}
use Rattle.ht_rounding.proofs.only.only_vector.Goals as goal

pub loop-stream-preserved : goal.loop-stream-preserved
loop-stream-preserved c =
    only_next c.args.grid.now c.loop-stream.vector c.push.new.self c.loop-stream.stream _ c.in_ok-only_point.field-0
    (omega (arith, c.loop-stream-test.true, c.streams-stream-end.ensures.number)) c.loop-stream.invariant
    (omega arith) c.in_ok-only_point.ensures c.push.ensures
