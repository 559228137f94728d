use Rattle.ht_pool.proofs.Steps.{merges}
use Rattle.ht_pool.proofs.own.OwnDeque.absorb.Goals as goal

pub absorb-requires-clause-rule : goal.absorb-requires-clause-rule
absorb-requires-clause-rule g c = merges _ _ _ _ c.self.invariant.1
