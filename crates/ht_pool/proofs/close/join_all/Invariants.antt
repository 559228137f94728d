use Rattle.std.proofs.Common.{◌≡◌, length, List}
use Rattle.std.specs.List.{All}
use Rattle.ht_pool.specs.Takers.{TakerView, deques_at}
use Rattle.ht_pool.specs.Gathering.{joined_rows, rows_of}
use Rattle.ht_pool.specs.Opening.{own_deques}
use Rattle.ht_pool.proofs.close.join_all.Given as goal

abbrev pub invariant-loop-takers : goal.invariant-loop-takers
invariant-loop-takers g l = record {
  same : own_deques l.owners ≡ own_deques l.fn.owners;
  at : All (λ (takers : List (TakerView g.row.T.Denot)). deques_at takers ≡ own_deques l.fn.owners) (rows_of l.rows.items);
  joined : joined_rows l.owners (rows_of l.rows.items) ≡ joined_rows l.fn.owners (rows_of l.fn.rows.items);
}

abbrev pub decreases-loop-takers : goal.decreases-loop-takers
decreases-loop-takers g l = length l.rows.items
