use Rattle.std.proofs.Common.{◌≡◌}
use Rattle.ht_pool.proofs.lookout.steal_one.Given as goal

abbrev pub invariant-loop-turn : goal.invariant-loop-turn
invariant-loop-turn g l = l.takers ≡ l.fn.takers
