use Rattle.std.proofs.Common.{Some, rules}
use Rattle.std.proofs.lemmas.List.Elements.{All-pop}
use Rattle.ht_pool.specs.Members.{HasYetToServe}
use Rattle.ht_pool.proofs.Crews.{have_served-push}
use Rattle.ht_pool.proofs.crew.+crew+fn-crew-join+arg3.Goals as goal

pub join-mine-requires-after_bounds : goal.join-mine-requires-after_bounds
join-mine-requires-after_bounds g t c κs within =
    let fresh = All-pop (HasYetToServe c.args.shared.now) c.args.members.items c.pop.new.self.items (Some c.in-Some.mine) c.in-Some.ensures.items
    c.requires.fresh in (
      ((search rules, fresh.1), search rules),
      (
        search rules,
        (search rules, (search rules, (search rules, (search rules, ((search rules, search rules, fresh.0), search rules))))),
      ),
    )

pub returns-clause-served : goal.returns-clause-served
returns-clause-served g t c =
    let mine = c.join-mine.ensures.first in
    let others = c.join-mine.ensures.second in
    have_served-push g.W.PoolWork.asked g.W.PoolWork.weight c.args.shared.now _ _ _ _ _ _ c.in-Some.ensures.items
    c.push_reserved.ensures.items others.0 mine.0 mine.1
