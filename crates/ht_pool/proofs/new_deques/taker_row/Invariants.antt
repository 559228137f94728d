use Rattle.std.proofs.Common.{◌≡◌, ◌++◌, ◌≤◌, length, map, take, drop, vec_capacity}
use Rattle.ht_pool.specs.Takers.{fresh_taker}
use Rattle.ht_pool.specs.Opening.{own_deques, lent}
use Rattle.ht_pool.proofs.new_deques.taker_row.Given as goal

abbrev pub invariant-loop-at : goal.invariant-loop-at
invariant-loop-at g l = record {
  same : length l.owners ≡ length l.fn.owners;
  owners : l.owners ≡ lent 1 (take l.at l.fn.owners) ++ drop l.at l.fn.owners;
  takers : l.takers.items ≡ map fresh_taker (own_deques (take l.at l.fn.owners));
  room : length l.fn.owners ≤ vec_capacity l.takers;
}
