use Rattle.std.proofs.Common.{◌∙◌, ◌+◌, ◌++◌, ◌∷◌, [], List, length, map, ap, rules, arith}
use Rattle.std.proofs.lemmas.List.{length-append, map-append}
use Rattle.std.proofs.lemmas.List.Elements.{All-push, All-same}
use Rattle.ht_pool.specs.Takers.{DequeId, OwnView}
use Rattle.ht_pool.specs.Members.{Workplace, HasYetToServe, workplace, workplace_of}
use Rattle.ht_pool.specs.Opening.{AreReady, own_deques}
use Rattle.ht_pool.specs.declared.pass_log.PassLog.{PassLog}
use Rattle.ht_pool.specs.declared.member.Member.{Member}
use Rattle.ht_pool.proofs.Lists.{one_done}
use Rattle.ht_pool.proofs.Opens.{ready-less, member_new}
use Rattle.ht_pool.proofs.pool.make_members.Goals as goal

pub loop-own-preserved : goal.loop-own-preserved
loop-own-preserved g c =
    let was = c.loop-own.invariant in
    let own = c.in-Some.own in
    let takers = c.in-Some-pop.takers in
    let m : Member g.row.T.Denot g.row.A.Denot = record { own = own; takers = takers; place = c.loop-own.place + 1; pass = c.another.result; ran = 0 } in
    let first = c.in-Some.ensures.items in
    let last = c.in-Some-pop.ensures.items in
    let items = c.push_reserved.ensures.items in
    let long = ap length items ∙ length-append c.loop-own.members.items (m ∷ []) in
    let left = ap length first in
    let rows_left = ap length last ∙ length-append c.pop.new.self.items (takers ∷ []) in
    let one = c.another.ensures.one in
    let less = λ (deques : List DequeId) (ready : AreReady deques c.args.owners.now.items c.args.rows.now.items).
    ready-less deques c.loop-own.owners.items c.take_first.new.all.items c.loop-own.rows.items c.pop.new.self.items own takers first
    last (was.ready deques ready) in
    let new = λ (deques : List DequeId) (ready : AreReady deques c.args.owners.now.items c.args.rows.now.items).
    member_new c.args.shared.now deques m (less deques ready).1 (less deques ready).2 (was.ready deques ready).few
    (record {
      to = c.another.ensures.new_queue;
      part = ap (λ (v : PassLog g.row.A.Denot). v.parts) one;
      none_received = ap (λ (v : PassLog g.row.A.Denot). v.taken) one;
    })
    (ap (λ (v : PassLog g.row.A.Denot). v.pushed) one) in
    record {
      count = omega (arith, was.count, long, left);
      rows_left = omega (arith, was.rows_left, rows_left, left);
      place = omega (arith, was.place, long);
      capacity = search rules;
      owners_capacity = search rules;
      rows_capacity = search rules;
      queue = c.another.ensures.queue;
      parts = search rules;
      ready = λ deques ready. (less deques ready).0;
      fresh = λ deques ready. All-same (HasYetToServe c.args.shared.now) c.push_reserved.new.self.items (c.loop-own.members.items ++ m ∷ []) items
          (All-push (HasYetToServe c.args.shared.now) c.loop-own.members.items m (was.fresh deques ready) (new deques ready).0);
      workplaces = λ deques ready. one_done (workplace deques) (map workplace_of c.loop-own.members.items) (map workplace_of c.push_reserved.new.self.items)
          (map (workplace deques) (own_deques c.args.owners.now.items)) (own_deques c.loop-own.owners.items) (own_deques c.take_first.new.all.items) own.deque
          (ap (λ (os : List (OwnView g.row.T.Denot)). own_deques os) first)
          (ap (λ (ms : List (Member g.row.T.Denot g.row.A.Denot)). map workplace_of ms) items ∙ (map-append workplace_of c.loop-own.members.items (m ∷ [])
          ∙ ap (λ (b : Workplace). map workplace_of c.loop-own.members.items ++ b ∷ []) (new deques ready).1)) (was.workplaces deques ready);
    }
