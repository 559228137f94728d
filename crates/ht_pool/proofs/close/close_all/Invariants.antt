use Rattle.std.proofs.Common.{◌≡◌, ◌+◌, ◌++◌, ◌≤◌, length, map, vec_capacity}
use Rattle.std.specs.List.{All}
use Rattle.ht_pool.specs.Takers.{OwnView}
use Rattle.ht_pool.specs.Through.{through}
use Rattle.ht_pool.specs.Gathering.{IsAccounted, ended}
use Rattle.ht_pool.specs.declared.ends.Ends.{Ends}
use Rattle.ht_pool.proofs.close.close_all.Given as goal

abbrev pub invariant-loop-own : goal.invariant-loop-own
invariant-loop-own g l = record {
  all : All (λ (o : OwnView g.row.T.Denot). o.parts ≡ 1024) l.owners.items;
  places : length l.deques.items + length l.owners.items ≤ vec_capacity l.deques;
  closed : map through l.deques.items ++ map ended l.owners.items ≡ map ended l.fn.owners.items;
  whole : All (λ (e : Ends g.row.T.Denot). IsAccounted (through e)) l.deques.items;
}

abbrev pub decreases-loop-own : goal.decreases-loop-own
decreases-loop-own g l = length l.owners.items
