use Rattle.ht_pool.proofs.Steps.{takes}
use Rattle.ht_pool.proofs.own.OwnDeque.pop.Goals as goal

pub pop_as-requires-clause-fifo : goal.pop_as-requires-clause-fifo
pop_as-requires-clause-fifo g c = λ _. takes _ _ c.self.invariant.1
