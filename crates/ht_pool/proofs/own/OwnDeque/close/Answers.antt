use Rattle.std.proofs.Common.{◌∙◌, ap, arith}
use Rattle.ht_pool.specs.Takers.{OwnView}
use Rattle.ht_pool.specs.declared.pass_log.PassLog.{PassLog}
use Rattle.ht_pool.proofs.Steps.{learns, forks}
use Rattle.ht_pool.proofs.own.OwnDeque.close.Goals as goal

pub len_as-requires : goal.len_as-requires
len_as-requires g c = learns _ _ (ap (λ (o : OwnView g.row.T.Denot). o.parts) c.self.view_is ∙ c.requires.all)

pub another-pass-requires : goal.another-pass-requires
another-pass-requires g c =
    let all = ap (λ (o : OwnView g.row.T.Denot). o.parts) c.self.view_is ∙ c.requires.all in
    let same = ap (λ (v : PassLog g.row.T.Denot). v.parts) c.len_as.ensures.same.2 in
    forks _ _ (omega (arith, all, same))
