use Rattle.std.proofs.Common.{◌<◌, ◌≤◌, length, rules}
use Rattle.ht_pool.proofs.Opens.{row-more, row-done, some_at}
use Rattle.ht_pool.proofs.new_deques.taker_row.Goals as goal

pub taker-requires : goal.taker-requires
taker-requires g c =
    let small : c.loop-at.at < length c.args.owners.now = search rules in
    record { some = some_at c.args.owners.now c.loop-at.owners c.loop-at.at c.index-owners-at.result small c.loop-at.invariant.owners c.requires.some }

pub loop-at-preserved : goal.loop-at-preserved
loop-at-preserved g c =
    let was = c.loop-at.invariant in
    let small : c.loop-at.at < length c.args.owners.now = search rules in
    let more = row-more c.args.owners.now c.loop-at.owners c.loop-at.at c.index-owners-at.result c.taker.new.self c.loop-at.takers.items
    c.push_reserved.new.self.items c.in_ok-taker.field-0 small was.owners c.in_ok-taker.ensures.own c.in_ok-taker.ensures.taker was.takers
    c.push_reserved.ensures.items in
    record { same = search rules; owners = more.0; takers = more.1; room = search rules }

pub returns-clause-owners : goal.returns-clause-owners
returns-clause-owners g c =
    let past : length c.args.owners.now ≤ c.loop-at.at = search rules in
    (row-done c.args.owners.now c.loop-at.owners c.loop-at.at c.loop-at.takers.items past c.loop-at.invariant.owners c.loop-at.invariant.takers).0

pub returns-clause-takers : goal.returns-clause-takers
returns-clause-takers g c =
    let past : length c.args.owners.now ≤ c.loop-at.at = search rules in
    (row-done c.args.owners.now c.loop-at.owners c.loop-at.at c.loop-at.takers.items past c.loop-at.invariant.owners c.loop-at.invariant.takers).1
