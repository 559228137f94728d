use Rattle.std.proofs.Common.{◌∙◌, List, ap, sym}
use Rattle.ht_pool.specs.Takers.{TakerView, OwnView}
use Rattle.ht_pool.specs.Gathering.{rows_of, joined_rows}
use Rattle.ht_pool.specs.Opening.{own_deques}
use Rattle.ht_pool.proofs.Joining.{rows_at_last, row-deques, rows_last, joined_rows-last}
use Rattle.ht_pool.proofs.close.join_all.Goals as goal

pub join_row-requires : goal.join_row-requires
join_row-requires g c =
    let was = c.loop-takers.invariant in
    record {
      at = (rows_at_last c.args.owners.now c.loop-takers.rows.items c.pop.new.self.items c.in-Some.takers c.in-Some.ensures.items was.at).1
          ∙ sym was.same;
    }

pub loop-takers-preserved : goal.loop-takers-preserved
loop-takers-preserved g c =
    let was = c.loop-takers.invariant in
    let takers = c.in-Some.takers in
    let last = rows_last c.loop-takers.rows.items c.pop.new.self.items takers c.in-Some.ensures.items in
    record {
      same = ap (λ (os : List (OwnView g.row.T.Denot)). own_deques os) c.join_row.ensures ∙ (row-deques c.loop-takers.owners takers.items ∙ was.same);
      at = (rows_at_last c.args.owners.now c.loop-takers.rows.items c.pop.new.self.items takers c.in-Some.ensures.items was.at).0;
      joined = ap (λ (os : List (OwnView g.row.T.Denot)). joined_rows os (rows_of c.pop.new.self.items)) c.join_row.ensures
          ∙ (joined_rows-last c.loop-takers.owners (rows_of c.pop.new.self.items) takers.items
          ∙ (ap (λ (rs : List (List (TakerView g.row.T.Denot))). joined_rows c.loop-takers.owners rs) (sym last) ∙ was.joined));
    }
