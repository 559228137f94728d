use Rattle.ht_pool.proofs.Steps.{pushes}
use Rattle.ht_pool.proofs.own.OwnDeque.push.Goals as goal

pub push_as-requires-clause-pushes : goal.push_as-requires-clause-pushes
push_as-requires-clause-pushes g c = pushes _ _ _ c.self.invariant.1
