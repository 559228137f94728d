use Rattle.ht_pool.proofs.Steps.{queue_forks}
use Rattle.ht_pool.proofs.common.Common.another.Goals as goal

pub another-requires-clause-rule : goal.another-requires-clause-rule
another-requires-clause-rule g c = queue_forks _ _ c.requires.some
