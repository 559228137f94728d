use Rattle.std.proofs.Common.{◌≡◌, [], length, map}
use Rattle.std.specs.List.{sum_by}
use Rattle.crossbeam_queue.specs.Passes.{view as answer_view}
use Rattle.ht_pool.specs.Members.{Balances, IsOnQueue}
use Rattle.ht_pool.specs.Takers.{deques_at}
use Rattle.ht_pool.proofs.serve.run_tasks.Given as goal

abbrev pub invariant-loop : goal.invariant-loop
invariant-loop g l = record {
  same : length l.takers ≡ length l.fn.takers;
  at : deques_at l.takers ≡ deques_at l.fn.takers;
  deque : l.own.deque ≡ l.fn.own.deque;
  parts : l.own.parts ≡ l.fn.own.parts;
  queue : IsOnQueue l.shared l.pass;
  part : (answer_view l.pass).parts ≡ 1;
  none_received : (answer_view l.pass).taken ≡ [];
  balanced : Balances g.W.PoolWork.asked l.takers l.own (answer_view l.pass).pushed;
  ran : l.ran ≡ sum_by g.W.PoolWork.weight (map g.W.PoolWork.asked (answer_view l.pass).pushed);
}
