use Rattle.ht_pool.proofs.Steps.{queue_merges}
use Rattle.ht_pool.proofs.common.Common.absorb.Goals as goal

pub absorb-requires-clause-rule : goal.absorb-requires-clause-rule
absorb-requires-clause-rule g c = queue_merges _ _ _ _ c.requires.some
