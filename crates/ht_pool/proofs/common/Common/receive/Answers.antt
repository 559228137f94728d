use Rattle.ht_pool.proofs.Steps.{queue_takes}
use Rattle.ht_pool.proofs.common.Common.receive.Goals as goal

pub try_pop_as-requires-clause-rule : goal.try_pop_as-requires-clause-rule
try_pop_as-requires-clause-rule g c = queue_takes _ _ c.requires.part
