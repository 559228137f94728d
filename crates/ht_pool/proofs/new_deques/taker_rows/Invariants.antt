use Rattle.std.proofs.Common.{◌≡◌, ◌≤◌, length, map, vec_capacity}
use Rattle.std.specs.List.{All}
use Rattle.std.specs.Global.{Vec}
use Rattle.ht_pool.specs.Takers.{TakerView, fresh_taker}
use Rattle.ht_pool.specs.Opening.{own_deques, lent}
use Rattle.ht_pool.proofs.new_deques.taker_rows.Given as goal

abbrev pub invariant-loop : goal.invariant-loop
invariant-loop g l = record {
  same : length l.owners ≡ length l.fn.owners;
  owners : l.owners ≡ lent l.counter l.fn.owners;
  rows : All (λ (takers : Vec (TakerView g.row.T.Denot)). takers.items ≡ map fresh_taker (own_deques l.fn.owners)) l.rows.items;
  count : length l.rows.items ≡ l.counter;
  room : length l.fn.owners ≤ vec_capacity l.rows;
}
