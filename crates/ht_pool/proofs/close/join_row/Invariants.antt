use Rattle.std.proofs.Common.{◌≡◌, length, take}
use Rattle.ht_pool.specs.Takers.{deques_at}
use Rattle.ht_pool.specs.Gathering.{joined_row}
use Rattle.ht_pool.specs.Opening.{own_deques}
use Rattle.ht_pool.proofs.close.join_row.Given as goal

abbrev pub invariant-loop-taker : goal.invariant-loop-taker
invariant-loop-taker g l = record {
  same : own_deques l.owners ≡ own_deques l.fn.owners;
  at : deques_at l.takers.items ≡ take (length l.takers.items) (own_deques l.fn.owners);
  joined : joined_row l.owners l.takers.items ≡ joined_row l.fn.owners l.fn.takers.items;
}

abbrev pub decreases-loop-taker : goal.decreases-loop-taker
decreases-loop-taker g l = length l.takers.items
