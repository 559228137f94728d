use Rattle.std.proofs.Common.{◌∷◌, [], None}
use Rattle.ht_pool.specs.Takers.{Gets}
use Rattle.ht_pool.proofs.lookout.move_from.Given as goal

abbrev pub invariant-loop : goal.invariant-loop
invariant-loop g l = Gets (l.fn.taker ∷ []) l.fn.own (l.taker ∷ []) l.own None
