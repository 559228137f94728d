use Rattle.std.proofs.Common.{◌≡◌, List, IfSome, length, take, drop, ◌++◌, subst, sym, rules}
use Rattle.crossbeam_queue.specs.Passes.{view as answer_view}
use Rattle.ht_pool.specs.Takers.{TakerView, OwnView, Steals}
use Rattle.ht_pool.specs.Callers.{CallerView, caller_view, TakesBack}
use Rattle.ht_pool.proofs.Backs.{takes-own, takes-other, whole_again}
use Rattle.ht_pool.proofs.caller_end.CallerEnd.take.Goals as goal

pub returns-in-Some-clause-took : goal.returns-in-Some-clause-took
returns-in-Some-clause-took g c =
    let p = c.self.inside in
    subst (λ (old : CallerView g.row.T.Denot g.row.A.Denot). TakesBack old
    (caller_view c.pop.new.self p.takers.items p.pass.table_id (answer_view p.pass).taken) c.in-Some.task) c.self.view_is
    (takes-own p.pass.table_id (answer_view p.pass).taken p.own c.pop.new.self p.takers.items c.in-Some.task (search rules))

pub returns-clause-took : goal.returns-clause-took
returns-clause-took g c =
    let p = c.self.inside in
    let still : c.pop.new.self ≡ p.own = search rules in
    let steals : Steals p.takers.items c.steal_one.new.takers c.steal_one.result =
    subst (λ (was : List (TakerView g.row.T.Denot)). Steals was c.steal_one.new.takers c.steal_one.result) c.as_mut_slice.ensures.value
    c.steal_one.ensures.steals in
    let back = whole_again p.takers.len p.takers.items c.steal_one.new.takers (search rules) steals.at in
    let at : List (TakerView g.row.T.Denot) → OwnView g.row.T.Denot → CallerView g.row.T.Denot g.row.A.Denot =
    λ takers own. caller_view own takers p.pass.table_id (answer_view p.pass).taken in
    subst (λ (old : CallerView g.row.T.Denot g.row.A.Denot). IfSome c.steal_one.result (TakesBack old
    (at (take p.takers.len (c.steal_one.new.takers ++ drop (length c.steal_one.new.takers) p.takers.items)) c.pop.new.self))) c.self.view_is
    (subst (λ (takers : List (TakerView g.row.T.Denot)). IfSome c.steal_one.result (TakesBack (at p.takers.items p.own) (at takers c.pop.new.self))) (sym back)
    (subst (λ (own : OwnView g.row.T.Denot). IfSome c.steal_one.result (TakesBack (at p.takers.items p.own) (at c.steal_one.new.takers own))) (sym still)
    (takes-other p.pass.table_id (answer_view p.pass).taken p.own p.takers.items c.steal_one.new.takers c.steal_one.result steals)))
