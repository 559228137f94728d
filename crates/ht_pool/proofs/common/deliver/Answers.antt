use Rattle.std.proofs.Common.{arith, ap}
use Rattle.ht_pool.proofs.Steps.{queue_pushes}
use Rattle.ht_pool.proofs.common.deliver.Goals as goal

pub try_push_as-requires-clause-rule : goal.try_push_as-requires-clause-rule
try_push_as-requires-clause-rule g c = queue_pushes _ _ _ _ (omega (arith, ap (λ v. v.parts) c.loop.invariant.same))
