use Rattle.std.proofs.Common.{rules, ◌≡◌, ◌+◌, ◌<◌, ◌%◌, ℕ, List, Some, length, set, subst}
use Rattle.ht_pool.specs.Takers.{TakerView, Steals, stole}
use Rattle.ht_pool.proofs.Looking.{steals-at}
use Rattle.ht_pool.proofs.lookout.steal_one.Goals as goal

pub returns-in-Success-clause-steals : goal.returns-in-Success-clause-steals
returns-in-Success-clause-steals g c =
    let at : ℕ = (c.from.result + c.loop-turn.turn) % length c.args.takers.now in
    let small : at < length c.loop-turn.takers = search rules in
    let stolen : c.steal.new.self ≡ stole c.index-takers-at.result c.in-Success.task = search rules in
    subst (λ (was : List (TakerView g.row.T.Denot)). Steals was (set c.loop-turn.takers at c.steal.new.self) (Some c.in-Success.task)) c.loop-turn.invariant
    (steals-at c.loop-turn.takers at c.index-takers-at.result c.steal.new.self c.in-Success.task small c.index-takers-at.is stolen)
