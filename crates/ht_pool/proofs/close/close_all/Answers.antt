use Rattle.std.proofs.Common.{◌≡◌, ◌∙◌, ◌++◌, ◌∷◌, [], length, map, ap, arith}
use Rattle.std.proofs.lemmas.List.{map-append, length-append}
use Rattle.std.proofs.lemmas.List.Elements.{All-push, All-same}
use Rattle.ht_pool.specs.Takers.{OwnView}
use Rattle.ht_pool.specs.Through.{through}
use Rattle.ht_pool.specs.Gathering.{IsAccounted, ended}
use Rattle.ht_pool.specs.declared.ends.Ends.{Ends}
use Rattle.ht_pool.specs.declared.pass_log.PassLog.{PassLog}
use Rattle.ht_pool.proofs.Lists.{one_done, all_first}
use Rattle.ht_pool.proofs.close.close_all.Goals as goal

pub loop-own-preserved : goal.loop-own-preserved
loop-own-preserved g c =
    let was = c.loop-own.invariant in
    let own = c.in-Some.own in
    let ends = c.close.result in
    let first = c.in-Some.ensures.items in
    let items = c.push_reserved.ensures.items in
    let parts = all_first (λ (o : OwnView g.row.T.Denot). o.parts ≡ 1024) c.loop-own.owners.items c.take_first.new.all.items own first was.all in
    let more : map through c.push_reserved.new.self.items ≡ map through c.loop-own.deques.items ++ ended own ∷ [] =
    ap (map through) items ∙ (map-append through c.loop-own.deques.items (ends ∷ [])
    ∙ ap (λ (v : PassLog g.row.T.Denot). map through c.loop-own.deques.items ++ v ∷ []) c.close.ensures.through) in
    record {
      all = parts.1;
      places = omega (
        arith,
        was.places,
        ap length first,
        ap length items,
        length-append c.loop-own.deques.items (ends ∷ []),
        c.push_reserved.ensures.capacity,
      );
      closed = one_done ended (map through c.loop-own.deques.items) (map through c.push_reserved.new.self.items) (map ended c.args.owners.items)
          c.loop-own.owners.items c.take_first.new.all.items own first more was.closed;
      whole = All-same (λ (e : Ends g.row.T.Denot). IsAccounted (through e)) c.push_reserved.new.self.items (c.loop-own.deques.items ++ ends ∷ []) items
          (All-push (λ (e : Ends g.row.T.Denot). IsAccounted (through e)) c.loop-own.deques.items ends was.whole c.close.ensures.whole);
    }
