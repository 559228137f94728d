use Rattle.std.proofs.Common.{ap, arith}
use Rattle.ht_pool.specs.Takers.{OwnView}
use Rattle.ht_pool.proofs.Steps.{forks}
use Rattle.ht_pool.proofs.own.OwnDeque.taker.Goals as goal

pub another-pass-requires : goal.another-pass-requires
another-pass-requires g c = forks _ _ (omega (arith, ap (λ (o : OwnView g.row.T.Denot). o.parts) c.self.view_is, c.requires.some))
