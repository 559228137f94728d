use Rattle.std.proofs.Common.{arith}
use Rattle.ht_pool.proofs.Steps.{takes}
use Rattle.ht_pool.proofs.taker.Taker.steal.Goals as goal

pub steal_as-requires-clause-takes : goal.steal_as-requires-clause-takes
steal_as-requires-clause-takes g c = takes _ _ (omega (arith, c.self.invariant.part))
