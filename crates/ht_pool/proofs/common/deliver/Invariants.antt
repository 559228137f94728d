use Rattle.std.proofs.Common.{◌≡◌}
use Rattle.crossbeam_queue.specs.Passes.{view, IsPassOf}
use Rattle.ht_pool.proofs.common.deliver.Given as goal

abbrev pub invariant-loop : goal.invariant-loop
invariant-loop g l = record {
  queue : IsPassOf l.answers l.pass;
  same : view l.pass ≡ view l.fn.pass;
  answer : l.answer ≡ l.fn.answer;
}
