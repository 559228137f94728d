use Rattle.std.proofs.Common.{◌≡◌, ◌∙◌, ◌<◌, ◌++◌, ◌∷◌, [], List, map, ap, sym, subst, rules}
use Rattle.std.specs.List.{All}
use Rattle.std.specs.Global.{Vec}
use Rattle.std.proofs.lemmas.List.Elements.{All-push, All-same}
use Rattle.ht_pool.specs.Takers.{TakerView, OwnView, fresh_taker}
use Rattle.ht_pool.specs.Opening.{own_deques, lent}
use Rattle.ht_pool.proofs.Opens.{lent-none, lent-next, some_left, same-deques}
use Rattle.ht_pool.proofs.new_deques.taker_rows.Goals as goal

pub loop-init : goal.loop-init
loop-init g c = record {
  same = search rules;
  owners = lent-none c.args.owners.now;
  rows = search rules;
  count = search rules;
  room = search rules;
}

pub taker_row-requires-clause-some : goal.taker_row-requires-clause-some
taker_row-requires-clause-some g c =
    let small : c.loop.counter < 64 = search rules in
    subst (λ (os : List (OwnView g.row.T.Denot)). All (λ (o : OwnView g.row.T.Denot). 1 < o.parts) os) (sym c.loop.invariant.owners)
    (some_left c.loop.counter c.args.owners.now small c.requires.all)

pub loop-preserved : goal.loop-preserved
loop-preserved g c =
    let was = c.loop.invariant in
    let row = c.in_ok-taker_row.field-0 in
    let owners : c.taker_row.new.owners ≡ lent 1 c.loop.owners = c.in_ok-taker_row.ensures.owners in
    let fresh = c.in_ok-taker_row.ensures.takers ∙ (ap (λ (os : List (OwnView g.row.T.Denot)). map fresh_taker (own_deques os)) was.owners
    ∙ ap (map fresh_taker) (same-deques c.loop.counter c.args.owners.now)) in
    record {
      same = search rules;
      owners = owners ∙ (ap (λ (os : List (OwnView g.row.T.Denot)). lent 1 os) was.owners ∙ lent-next c.loop.counter c.args.owners.now);
      rows = All-same (λ (ss : Vec (TakerView g.row.T.Denot)). ss.items ≡ map fresh_taker (own_deques c.args.owners.now)) c.push_reserved.new.self.items
          (c.loop.rows.items ++ row ∷ []) c.push_reserved.ensures.items
          (All-push (λ (ss : Vec (TakerView g.row.T.Denot)). ss.items ≡ map fresh_taker (own_deques c.args.owners.now)) c.loop.rows.items row was.rows fresh);
      count = search rules;
      room = search rules;
    }
