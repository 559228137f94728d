use Rattle.std.proofs.Common.{◌≡◌, ◌∙◌, List, length, ap, rules}
use Rattle.ht_pool.specs.Takers.{OwnView}
use Rattle.ht_pool.specs.Gathering.{joined_rows, rows_of}
use Rattle.ht_pool.proofs.Lists.{written_back}
use Rattle.ht_pool.proofs.Joining.{length_rows}
use Rattle.ht_pool.proofs.close.join_owners.Goals as goal

pub returns : goal.returns
returns g c =
    let joined : c.join_all.new.owners ≡ joined_rows c.args.owners.items (rows_of c.args.rows.items) =
    c.join_all.ensures ∙ ap (λ (os : List (OwnView g.row.T.Denot)). joined_rows os (rows_of c.args.rows.items)) c.as_mut_slice.ensures.value in
    let long : length c.join_all.new.owners ≡ length c.args.owners.items =
    ap (λ (os : List (OwnView g.row.T.Denot)). length os) joined ∙ length_rows c.args.owners.items (rows_of c.args.rows.items) in
    written_back c.args.owners.len c.args.owners.items c.join_all.new.owners (search rules) long ∙ joined
