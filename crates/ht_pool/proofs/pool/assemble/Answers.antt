use Rattle.std.proofs.Common.{◌≡◌, ◌∙◌, ◌+◌, ◌-◌, ◌∷◌, [], ℕ, List, length, map, drop, ap, sym, subst, rules, arith}
use Rattle.std.proofs.lemmas.List.{length-map}
use Rattle.ht_pool.specs.PassLogs.{pass_log}
use Rattle.ht_pool.specs.Takers.{DequeId, TakerView, OwnView, fresh_taker, fresh_own, deques_at}
use Rattle.ht_pool.specs.Members.{workplace, workplaces}
use Rattle.ht_pool.specs.Callers.{CallerView, unused}
use Rattle.ht_pool.specs.Pools.{IsVacant}
use Rattle.ht_pool.specs.Opening.{AreReady, own_deques}
use Rattle.ht_pool.proofs.Lists.{all_first}
use Rattle.ht_pool.proofs.Opens.{ready-less, deques-fresh}
use Rattle.ht_pool.proofs.pool.assemble.Goals as goal
use Rattle.ht_pool.proofs.pool.assemble.Goals.{In-Some-pop}

-- what the deque and the takers of the caller are, and what is left for the workers
first_ready : (g : _) (c : In-Some-pop g) → AreReady (own_deques c.args.space.owners.items) c.take_first.new.all.items c.pop.new.self.items
    × (c.in-Some.own ≡ fresh_own (1024 - length (own_deques c.args.space.owners.items)) c.in-Some.own.capacity c.in-Some.own.deque)
    × (c.in-Some-pop.takers.items ≡ map fresh_taker (own_deques c.args.space.owners.items))
first_ready g c =
    ready-less (own_deques c.args.space.owners.items) c.args.space.owners.items c.take_first.new.all.items c.args.space.rows.items
    c.pop.new.self.items c.in-Some.own c.in-Some-pop.takers c.in-Some.ensures.items c.in-Some-pop.ensures.items c.requires.ready

at_ids : (g : _) (c : In-Some-pop g) → deques_at c.in-Some-pop.takers.items ≡ own_deques c.args.space.owners.items
at_ids g c =
    ap (λ (ss : List (TakerView g.row.T.Denot)). deques_at ss) (first_ready g c).2 ∙ deques-fresh g.row.T.Denot (own_deques c.args.space.owners.items)

takers_long : (g : _) (c : In-Some-pop g) → length c.in-Some-pop.takers.items ≡ length (own_deques c.args.space.owners.items)
takers_long g c =
    ap (λ (ss : List (TakerView g.row.T.Denot)). length ss) (first_ready g c).2
    ∙ length-map (own_deques c.args.space.owners.items) (fresh_taker {T = g.row.T.Denot})

pub new-caller_end-requires-clause-takers : goal.new-caller_end-requires-clause-takers
new-caller_end-requires-clause-takers g c =
    let taken = (goal.at.new-caller_end-requires-clause-takers g c).In-Some-pop in
    (first_ready g taken).2 ∙ ap (map fresh_taker) (sym (at_ids g taken))

pub new-caller_end-requires-clause-own : goal.new-caller_end-requires-clause-own
new-caller_end-requires-clause-own g c =
    let taken = (goal.at.new-caller_end-requires-clause-own g c).In-Some-pop in
    (first_ready g taken).1 ∙ ap (λ (n : ℕ). fresh_own (1024 - n) c.in-Some.own.capacity c.in-Some.own.deque) (sym (takers_long g taken))

pub new-caller_end-requires-clause-answers : goal.new-caller_end-requires-clause-answers
new-caller_end-requires-clause-answers g c =
    let ids : List DequeId = own_deques c.args.space.owners.items in
    let long = takers_long g (goal.at.new-caller_end-requires-clause-answers g c).In-Some-pop in
    let all : length ids ≡ length c.args.space.owners.items = length-map c.args.space.owners.items (λ (o : OwnView g.row.T.Denot). o.deque) in
    let one : length c.args.space.owners.items ≡ length c.take_first.new.all.items + 1 =
    ap (λ (os : List (OwnView g.row.T.Denot)). length os) c.in-Some.ensures.items ∙ omega arith in
    let parts : 1024 - length c.take_first.new.all.items ≡ 1025 - length c.in-Some-pop.takers.items = omega (arith, long, all, one) in
    c.make_members.ensures.pass ∙ ap (λ (n : ℕ). pass_log n [] []) parts

pub new-caller_end-requires-clause-few : goal.new-caller_end-requires-clause-few
new-caller_end-requires-clause-few g c =
    let long = takers_long g (goal.at.new-caller_end-requires-clause-few g c).In-Some-pop in
    omega (arith, long, length-map c.args.space.owners.items (λ (o : OwnView g.row.T.Denot). o.deque), c.requires.few)

pub new-caller_end-requires-clause-first : goal.new-caller_end-requires-clause-first
new-caller_end-requires-clause-first g c =
    let at = at_ids g (goal.at.new-caller_end-requires-clause-first g c).In-Some-pop in
    let ids : deques_at c.in-Some-pop.takers.items ≡ c.in-Some.own.deque ∷ own_deques c.take_first.new.all.items =
    at ∙ ap (λ (os : List (OwnView g.row.T.Denot)). own_deques os) c.in-Some.ensures.items in
    ids ∙ ap (λ (xs : List DequeId). c.in-Some.own.deque ∷ drop 1 xs) (sym ids)

pub new-caller_end-requires-clause-idle : goal.new-caller_end-requires-clause-idle
new-caller_end-requires-clause-idle g c = c.make_members.ensures.queue.1

pub returns-clause-workers : goal.returns-clause-workers
returns-clause-workers g c =
    let at = at_ids g (goal.at.returns-clause-workers g c).In-Some-pop in
    ap (λ (v : CallerView g.row.T.Denot g.row.A.Denot). length v.deques) c.new-caller_end.ensures ∙ (ap (λ (xs : List DequeId). length xs) at
    ∙ length-map c.args.space.owners.items (λ (o : OwnView g.row.T.Denot). o.deque))

pub returns-clause-opened : goal.returns-clause-opened
returns-clause-opened g c = λ capacity alike.
    let ids : List DequeId = own_deques c.args.space.owners.items in
    let ready = first_ready g (goal.at.returns-clause-opened g c).In-Some-pop in
    let at = at_ids g (goal.at.returns-clause-opened g c).In-Some-pop in
    let capacities = all_first (λ (o : OwnView g.row.T.Denot). o.capacity ≡ capacity) c.args.space.owners.items c.take_first.new.all.items c.in-Some.own
    c.in-Some.ensures.items alike in
    let caller_end = c.new-caller_end.ensures in
    let deques : c.new-caller_end.result.deques ≡ ids = ap (λ (v : CallerView g.row.T.Denot g.row.A.Denot). v.deques) caller_end ∙ at in
    let queue : c.make_members.new.pass.table_id ≡ c.args.shared = c.make_members.ensures.queue.0 in
    let workers : length c.new-caller_end.result.deques ≡ length c.args.space.owners.items = ap (λ (xs : List DequeId). length xs) deques
    ∙ length-map c.args.space.owners.items (λ (o : OwnView g.row.T.Denot). o.deque) in
    let rest : drop 1 ids ≡ own_deques c.take_first.new.all.items =
    ap (λ (os : List (OwnView g.row.T.Denot)). drop 1 (own_deques os)) c.in-Some.ensures.items in
    record {
      caller_end = caller_end ∙ (ap (λ (n : ℕ). unused n (deques_at c.in-Some-pop.takers.items) c.make_members.new.pass.table_id) capacities.0
          ∙ (ap (λ (xs : List DequeId). unused capacity xs c.make_members.new.pass.table_id) (at ∙ sym deques)
          ∙ ap (unused capacity c.new-caller_end.result.deques) queue));
      fresh = c.make_members.ensures.fresh ids ready.0;
      workplaces_are = c.make_members.ensures.workplaces ids ready.0
          ∙ (ap (λ (xs : List DequeId). map (workplace ids) xs) (sym rest) ∙ ap (λ (xs : List DequeId). workplaces xs) (sym deques));
      takers = search rules;
      space = subst (λ (n : ℕ).
          IsVacant n (record { ran = c.args.space.ran; owners = c.make_members.new.owners; rows = c.make_members.new.rows; deques = c.args.space.deques }))
          (sym workers) (record {
            ran = c.requires.ran;
            owners = (c.make_members.ensures.owners.0, omega (arith, c.make_members.ensures.owners.1, c.take_first.ensures.capacity, c.requires.owners));
            rows = search rules;
            deques = c.requires.deques;
          });
    }
