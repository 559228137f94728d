use Rattle.std.proofs.Common.{◌≡◌, ◌∙◌, ◌+◌, ◌∷◌, [], ℕ, List, length, map, drop, ap, sym, refl, subst, arith}
use Rattle.std.specs.List.{All, sum_by}
use Rattle.std.proofs.lemmas.List.{length-map, length-append}
use Rattle.std.proofs.lemmas.List.Elements.{recursion_from_All}
use Rattle.atomic_table.specs.Seated.{TableId}
use Rattle.crossbeam_queue.specs.Passes.{view}
use Rattle.ht_pool.specs.Takers.{DequeId, TakerView, OwnView, deques_at}
use Rattle.ht_pool.specs.Through.{through}
use Rattle.ht_pool.specs.Members.{HasServed, workplace, workplace_of, workplaces}
use Rattle.ht_pool.specs.Callers.{CallerView}
use Rattle.ht_pool.specs.Gathering.{IsAccounted, ended, joined_rows, rows_of}
use Rattle.ht_pool.specs.declared.ends.Ends.{Ends}
use Rattle.ht_pool.specs.declared.member.Member.{Member}
use Rattle.ht_pool.specs.Opening.{own_deques}
use Rattle.ht_pool.proofs.Joining.{joined_same, put_first, rows_first}
use Rattle.ht_pool.proofs.Settling.{HaveEnded, at_all, all_parts, joined_long, all_answers, has_run, logs-whole}
use Rattle.ht_pool.proofs.close.close.Goals as goal
use Rattle.ht_pool.proofs.close.close.Goals.{After-take_apart, After-join_owners-owners}

-- there is a deque for the caller, and one for each worker
crew-long : {T A : Type 0} (deques at : List DequeId) (own : DequeId) (members : List (Member T A)) → at ≡ deques → at ≡ own ∷ drop 1 at
    → map workplace_of members ≡ workplaces deques → length members + 1 ≡ length deques
crew-long deques at own members same first are =
    let some : length at ≡ length (drop 1 at) + 1 = ap length first ∙ omega arith in
    let rest : length (drop 1 at) ≡ length (drop 1 deques) = ap (λ (xs : List DequeId). length (drop 1 xs)) same in
    omega (arith, some, rest, ap length same, ap length are, length-map members workplace_of, length-map (drop 1 deques) (workplace deques))

have_ended : (g : _) (c : After-take_apart g)
    → HaveEnded g.row.W-Task.Denot g.row.W-Answer.Denot g.W.PoolWork.asked g.W.PoolWork.weight c.caller_end.inside.pass.table_id
    c.args.caller c.caller_end.inside.own
    c.caller_end.inside.takers.items (view c.caller_end.inside.pass) c.args.members.items
have_ended g c =
    let inv = c.caller_end.invariant in
    let seen = c.caller_end.view_is ∙ c.caller.view_is in
    record {
      seen = seen;
      few = inv.0;
      first = inv.1;
      own_parts = inv.2;
      answer_parts = inv.3;
      none_pushed = inv.4;
      served = subst (λ (q : TableId). All (HasServed g.W.PoolWork.asked g.W.PoolWork.weight q) c.args.members.items)
          (sym (ap (λ (v : CallerView g.row.W-Task.Denot g.row.W-Answer.Denot). v.queue) seen)) c.requires.served;
      workplaces_are = c.requires.workplaces;
    }

-- the owners and the rows of takers that were taken apart
owners_are : (g : _) (c : After-take_apart g) → c.take_apart.new.owners.items
    ≡ c.caller_end.inside.own ∷ map (λ (m : Member g.row.W-Task.Denot g.row.W-Answer.Denot). m.own) c.args.members.items
owners_are g c = put_first c.caller_end.inside.own c.requires.space.owners.0 c.push_reserved-2.ensures.items c.take_apart.ensures.owners

rows_are : (g : _) (c : After-take_apart g) → rows_of c.take_apart.new.rows.items
    ≡ c.caller_end.inside.takers.items ∷ map (λ (m : Member g.row.W-Task.Denot g.row.W-Answer.Denot). m.takers.items) c.args.members.items
rows_are g c =
    rows_first _ _ c.take_apart.new.rows.items c.caller_end.inside.takers _ c.requires.space.rows.0 c.push_reserved-3.ensures.items c.take_apart.ensures.rows

joined_are : (g : _) (c : After-join_owners-owners g) → c.join_owners-owners.result.items
    ≡ joined_rows (c.caller_end.inside.own ∷ map (λ (m : Member g.row.W-Task.Denot g.row.W-Answer.Denot). m.own) c.args.members.items)
    (c.caller_end.inside.takers.items ∷ map (λ (m : Member g.row.W-Task.Denot g.row.W-Answer.Denot). m.takers.items) c.args.members.items)
joined_are g c =
    joined_same c.take_apart.new.owners.items _ c.take_apart.new.rows.items _ c.join_owners-owners.result.items
    (put_first c.caller_end.inside.own c.requires.space.owners.0 c.push_reserved-2.ensures.items c.take_apart.ensures.owners)
    (rows_first _ _ c.take_apart.new.rows.items c.caller_end.inside.takers _ c.requires.space.rows.0 c.push_reserved-3.ensures.items c.take_apart.ensures.rows)
    c.join_owners-owners.ensures

pub push_reserved-requires : goal.push_reserved-requires
push_reserved-requires g c =
    let long = crew-long c.args.caller.deques (deques_at c.caller_end.inside.takers.items) c.caller_end.inside.own.deque c.args.members.items
    (ap (λ (v : CallerView g.row.W-Task.Denot g.row.W-Answer.Denot). v.deques)
    (c.caller_end.view_is ∙ c.caller.view_is)) c.caller_end.invariant.1 c.requires.workplaces in
    omega (arith, long, ap length c.requires.space.ran.0, c.requires.space.ran.1)

pub push_reserved-requires-2 : goal.push_reserved-requires-2
push_reserved-requires-2 g c =
    let long = crew-long c.args.caller.deques (deques_at c.caller_end.inside.takers.items) c.caller_end.inside.own.deque c.args.members.items
    (ap (λ (v : CallerView g.row.W-Task.Denot g.row.W-Answer.Denot). v.deques)
    (c.caller_end.view_is ∙ c.caller.view_is)) c.caller_end.invariant.1 c.requires.workplaces in
    omega (arith, long, ap length c.requires.space.owners.0, c.requires.space.owners.1)

pub push_reserved-requires-3 : goal.push_reserved-requires-3
push_reserved-requires-3 g c =
    let long = crew-long c.args.caller.deques (deques_at c.caller_end.inside.takers.items) c.caller_end.inside.own.deque c.args.members.items
    (ap (λ (v : CallerView g.row.W-Task.Denot g.row.W-Answer.Denot). v.deques)
    (c.caller_end.view_is ∙ c.caller.view_is)) c.caller_end.invariant.1 c.requires.workplaces in
    omega (arith, long, ap length c.requires.space.rows.0, c.requires.space.rows.1)

pub take_apart-requires-clause-numbers : goal.take_apart-requires-clause-numbers
take_apart-requires-clause-numbers g c =
    let long = crew-long c.args.caller.deques (deques_at c.caller_end.inside.takers.items) c.caller_end.inside.own.deque c.args.members.items
    (ap (λ (v : CallerView g.row.W-Task.Denot g.row.W-Answer.Denot). v.deques)
    (c.caller_end.view_is ∙ c.caller.view_is)) c.caller_end.invariant.1 c.requires.workplaces in
    omega (
      arith,
      long,
      ap length c.requires.space.ran.0,
      c.requires.space.ran.1,
      ap length c.push_reserved.ensures.items,
      length-append c.args.space.ran.items (c.caller.inside.ran ∷ []),
      c.push_reserved.ensures.capacity,
    )

pub take_apart-requires-clause-places : goal.take_apart-requires-clause-places
take_apart-requires-clause-places g c =
    let long = crew-long c.args.caller.deques (deques_at c.caller_end.inside.takers.items) c.caller_end.inside.own.deque c.args.members.items
    (ap (λ (v : CallerView g.row.W-Task.Denot g.row.W-Answer.Denot). v.deques)
    (c.caller_end.view_is ∙ c.caller.view_is)) c.caller_end.invariant.1 c.requires.workplaces in
    omega (
      arith,
      long,
      ap length c.requires.space.owners.0,
      c.requires.space.owners.1,
      ap length c.push_reserved-2.ensures.items,
      length-append c.args.space.owners.items (c.caller_end.inside.own ∷ []),
      c.push_reserved-2.ensures.capacity,
    )

pub take_apart-requires-clause-room : goal.take_apart-requires-clause-room
take_apart-requires-clause-room g c =
    let long = crew-long c.args.caller.deques (deques_at c.caller_end.inside.takers.items) c.caller_end.inside.own.deque c.args.members.items
    (ap (λ (v : CallerView g.row.W-Task.Denot g.row.W-Answer.Denot). v.deques)
    (c.caller_end.view_is ∙ c.caller.view_is)) c.caller_end.invariant.1 c.requires.workplaces in
    omega (
      arith,
      long,
      ap length c.requires.space.rows.0,
      c.requires.space.rows.1,
      ap length c.push_reserved-3.ensures.items,
      length-append c.args.space.rows.items (c.caller_end.inside.takers ∷ []),
      c.push_reserved-3.ensures.capacity,
    )

pub take_apart-requires-clause-some : goal.take_apart-requires-clause-some
take_apart-requires-clause-some g c = omega (arith, c.caller_end.invariant.0, c.caller_end.invariant.3)

pub join_owners-owners-requires : goal.join_owners-owners-requires
join_owners-owners-requires g c =
    let apart = (goal.at.join_owners-owners-requires g c).After-take_apart in
    record {
      at = subst (λ (os : List (OwnView g.row.W-Task.Denot)). All (λ (ss : List (TakerView g.row.W-Task.Denot)). deques_at ss ≡ own_deques os)
          (rows_of c.take_apart.new.rows.items)) (sym (owners_are g apart))
          (subst (λ (rs : List (List (TakerView g.row.W-Task.Denot))). All (λ (ss : List (TakerView g.row.W-Task.Denot)). deques_at ss
          ≡ own_deques (c.caller_end.inside.own ∷ map (λ (m : Member g.row.W-Task.Denot g.row.W-Answer.Denot). m.own) c.args.members.items)) rs)
          (sym (rows_are g apart)) (at_all _ _ _ _ _ _ _ _ (have_ended g apart)));
    }

pub learn-requires-clause-all : goal.learn-requires-clause-all
learn-requires-clause-all g c =
    all_answers _ _ _ _ _ _ _ _ (have_ended g (goal.at.learn-requires-clause-all g c).After-take_apart) (view c.take_apart.new.pass)
    c.take_apart.ensures.collected

pub close_all-requires-clause-all : goal.close_all-requires-clause-all
close_all-requires-clause-all g c =
    subst (λ (os : List (OwnView g.row.W-Task.Denot)). All (λ (o : OwnView g.row.W-Task.Denot). o.parts ≡ 1024) os)
    (sym (joined_are g (goal.at.close_all-requires-clause-all g c).After-join_owners-owners))
    (all_parts _ _ _ _ _ _ _ _ (have_ended g (goal.at.close_all-requires-clause-all g c).After-take_apart))

pub close_all-requires-clause-places : goal.close_all-requires-clause-places
close_all-requires-clause-places g c =
    let joined = joined_are g (goal.at.close_all-requires-clause-places g c).After-join_owners-owners in
    let long = joined_long _ _ _ _ _ _ _ _ (have_ended g (goal.at.close_all-requires-clause-places g c).After-take_apart) in
    omega (arith, ap length joined, long, c.requires.space.deques.1)

pub returns : goal.returns
returns g c =
    let joined = joined_are g (goal.at.returns g c).After-join_owners-owners in
    let waiting = c.learn.ensures.whole in
    let ran_are = put_first c.caller.inside.ran c.requires.space.ran.0 c.push_reserved.ensures.items c.take_apart.ensures.ran
    ∙ ap (λ (n : ℕ). n ∷ map (λ (m : Member g.row.W-Task.Denot g.row.W-Answer.Denot). m.ran) c.args.members.items)
    (c.caller.invariant.1 ∙ ap (λ (v : CallerView g.row.W-Task.Denot g.row.W-Answer.Denot). sum_by g.W.PoolWork.weight v.taken) c.caller.view_is) in
    has_run _ _ _ _ _ _ _ _ (have_ended g (goal.at.returns g c).After-take_apart) (view c.take_apart.new.pass) c.take_apart.ensures.collected
    waiting.0 waiting.1 c.requires.settled (map through c.close_all.result.items)
    (c.close_all.ensures.through ∙ ap (λ (os : List (OwnView g.row.W-Task.Denot)). map ended os) joined)
    (logs-whole c.close_all.result.items
    (recursion_from_All (λ (e : Ends g.row.W-Task.Denot). IsAccounted (through e)) c.close_all.result.items c.close_all.ensures.whole))
    record { deques = c.close_all.result; pass = c.learn.new.pass; ran = c.take_apart.new.ran } refl c.learn.ensures.same ran_are
