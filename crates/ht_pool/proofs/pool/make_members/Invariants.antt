use Rattle.std.proofs.Common.{◌≡◌, ◌+◌, ◌-◌, ◌++◌, [], List, length, map, vec_capacity}
use Rattle.std.specs.List.{All}
use Rattle.crossbeam_queue.specs.Passes.{view as answer_view}
use Rattle.ht_pool.specs.PassLogs.{pass_log}
use Rattle.ht_pool.specs.Takers.{DequeId}
use Rattle.ht_pool.specs.Members.{HasYetToServe, IsOnQueue, workplace, workplace_of}
use Rattle.ht_pool.specs.Opening.{AreReady, own_deques}
use Rattle.ht_pool.proofs.pool.make_members.Given as goal

abbrev pub invariant-loop-own : goal.invariant-loop-own
invariant-loop-own g l = record {
  count : length l.members.items + length l.owners.items ≡ length l.fn.owners.items;
  rows_left : length l.rows.items ≡ length l.owners.items;
  place : l.place ≡ length l.members.items;
  capacity : vec_capacity l.members ≡ vec_capacity l.fn.members;
  owners_capacity : vec_capacity l.owners ≡ vec_capacity l.fn.owners;
  rows_capacity : vec_capacity l.rows ≡ vec_capacity l.fn.rows;
  queue : IsOnQueue l.shared l.pass;
  parts : answer_view l.pass ≡ pass_log (1024 - length l.members.items) [] [];
  ready : (deques : List DequeId) → AreReady deques l.fn.owners.items l.fn.rows.items → AreReady deques l.owners.items l.rows.items;
  fresh : (deques : List DequeId) → AreReady deques l.fn.owners.items l.fn.rows.items → All (HasYetToServe l.shared) l.members.items;
  workplaces : (deques : List DequeId) → AreReady deques l.fn.owners.items l.fn.rows.items
      → map workplace_of l.members.items ++ map (workplace deques) (own_deques l.owners.items) ≡ map (workplace deques) (own_deques l.fn.owners.items);
}

abbrev pub decreases-loop-own : goal.decreases-loop-own
decreases-loop-own g l = length l.owners.items
