use Rattle.ht_pool.proofs.Steps.{queue_learns}
use Rattle.ht_pool.proofs.common.Common.learn.Goals as goal

pub learn_as-requires-clause-rule : goal.learn_as-requires-clause-rule
learn_as-requires-clause-rule g c = queue_learns _ _ c.requires.all
