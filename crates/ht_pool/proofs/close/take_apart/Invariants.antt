use Rattle.std.proofs.Common.{◌≡◌, ◌+◌, ◌++◌, ◌<◌, ◌≤◌, length, map, vec_capacity}
use Rattle.std.specs.List.{All}
use Rattle.crossbeam_queue.specs.Passes.{view}
use Rattle.ht_pool.specs.Members.{IsOnQueue, HasServed}
use Rattle.ht_pool.specs.Gathering.{answered_by, rows_of}
use Rattle.ht_pool.specs.declared.member.Member.{Member}
use Rattle.ht_pool.proofs.close.take_apart.Given as goal

abbrev pub invariant-loop-member : goal.invariant-loop-member
invariant-loop-member g l = record {
  served : All (HasServed g.W.PoolWork.asked g.W.PoolWork.weight l.shared) l.members.items;
  queue : IsOnQueue l.shared l.pass;
  some : 0 < (view l.pass).parts;
  numbers : length l.ran.items + length l.members.items ≤ vec_capacity l.ran;
  places : length l.owners.items + length l.members.items ≤ vec_capacity l.owners;
  room : length l.rows.items + length l.members.items ≤ vec_capacity l.rows;
  ran : l.ran.items ++ map (λ (m : Member g.row.W-Task.Denot g.row.W-Answer.Denot). m.ran) l.members.items
      ≡ l.fn.ran.items ++ map (λ (m : Member g.row.W-Task.Denot g.row.W-Answer.Denot). m.ran) l.fn.members.items;
  owners : l.owners.items ++ map (λ (m : Member g.row.W-Task.Denot g.row.W-Answer.Denot). m.own) l.members.items
      ≡ l.fn.owners.items ++ map (λ (m : Member g.row.W-Task.Denot g.row.W-Answer.Denot). m.own) l.fn.members.items;
  rows : rows_of l.rows.items ++ map (λ (m : Member g.row.W-Task.Denot g.row.W-Answer.Denot). m.takers.items) l.members.items
      ≡ rows_of l.fn.rows.items ++ map (λ (m : Member g.row.W-Task.Denot g.row.W-Answer.Denot). m.takers.items) l.fn.members.items;
  parts : (view l.pass).parts + length l.members.items ≡ (view l.fn.pass).parts + length l.fn.members.items;
  pushed : (view l.pass).pushed ++ answered_by l.members.items ≡ (view l.fn.pass).pushed ++ answered_by l.fn.members.items;
  taken : (view l.pass).taken ≡ (view l.fn.pass).taken;
}

abbrev pub decreases-loop-member : goal.decreases-loop-member
decreases-loop-member g l = length l.members.items
