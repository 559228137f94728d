use Rattle.std.proofs.Common.{◌≡◌, ◌≤◌, length, map, vec_capacity}
use Rattle.ht_pool.specs.Takers.{fresh_own}
use Rattle.ht_pool.specs.Opening.{own_deques}
use Rattle.ht_pool.proofs.new_deques.open_all.Given as goal

abbrev pub invariant-loop : goal.invariant-loop
invariant-loop g l = record {
  fresh : l.owners.items ≡ map (fresh_own 1024 l.capacity) (own_deques l.owners.items);
  count : length l.owners.items ≡ l.counter;
  room : l.workers ≤ vec_capacity l.owners;
}
