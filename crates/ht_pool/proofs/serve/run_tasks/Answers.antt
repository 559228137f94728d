use Rattle.std.proofs.Common.{rules, ◌≡◌, ◌++◌, ◌∷◌, [], List, Option, map, ap, ◌∙◌, subst, arith}
use Rattle.std.specs.List.{sum_by}
use Rattle.std.proofs.lemmas.List.{map-append}
use Rattle.std.proofs.lemmas.List.Sums.{sum_by-append}
use Rattle.crossbeam_queue.specs.Passes.{view as answer_view}
use Rattle.ht_pool.specs.declared.pass_log.PassLog.{PassLog}
use Rattle.ht_pool.specs.Takers.{Gets}
use Rattle.ht_pool.proofs.Serving.{balances-ran, balances-still}
use Rattle.ht_pool.proofs.serve.run_tasks.Goals as goal

pub loop-preserved-in-Some-next_task : goal.loop-preserved-in-Some-next_task
loop-preserved-in-Some-next_task g c =
    let was = c.loop.invariant in
    let gets = subst (λ (task : Option g.row.W-Task.Denot). Gets c.loop.takers c.loop.own c.next_task.new.takers c.next_task.new.own task)
    c.in-Some-next_task.is c.next_task.ensures in
    let gave = c.deliver-pass.ensures.pushed in
    let more : (answer_view c.deliver-pass.result).pushed ≡ (answer_view c.loop.pass).pushed ++ c.answer_to.result ∷ [] =
    ap (λ (v : PassLog g.row.W-Answer.Denot). v.pushed) gave in
    record {
      same = search rules;
      at = gets.at ∙ was.at;
      deque = gets.deque_is ∙ was.deque;
      parts = gets.parts_are ∙ was.parts;
      queue = c.deliver-pass.ensures.queue;
      part = ap (λ (v : PassLog g.row.W-Answer.Denot). v.parts) gave ∙ was.part;
      none_received = ap (λ (v : PassLog g.row.W-Answer.Denot). v.taken) gave ∙ was.none_received;
      balanced = balances-ran g.W.PoolWork.asked c.loop.takers c.next_task.new.takers c.loop.own c.next_task.new.own (answer_view c.loop.pass).pushed
          (answer_view c.deliver-pass.result).pushed c.in-Some-next_task.task c.answer_to.result gets c.answer_to.ensures more was.balanced;
      ran = omega (
        arith,
        was.ran,
        ap (λ (xs : List g.row.W-Answer.Denot). sum_by g.W.PoolWork.weight (map g.W.PoolWork.asked xs)) more,
        ap (sum_by g.W.PoolWork.weight) (map-append g.W.PoolWork.asked (answer_view c.loop.pass).pushed (c.answer_to.result ∷ [])),
        sum_by-append g.W.PoolWork.weight (map g.W.PoolWork.asked (answer_view c.loop.pass).pushed) (g.W.PoolWork.asked c.answer_to.result ∷ []),
        ap g.W.PoolWork.weight c.answer_to.ensures,
        c.weigh-weight.ensures,
      );
    }

pub loop-preserved : goal.loop-preserved
loop-preserved g c =
    let was = c.loop.invariant in
    let gets = subst (λ (task : Option g.row.W-Task.Denot). Gets c.loop.takers c.loop.own c.next_task.new.takers c.next_task.new.own task)
    c.in-None-next_task.is c.next_task.ensures in
    record {
      same = search rules;
      at = gets.at ∙ was.at;
      deque = gets.deque_is ∙ was.deque;
      parts = gets.parts_are ∙ was.parts;
      queue = was.queue;
      part = was.part;
      none_received = was.none_received;
      balanced = balances-still g.W.PoolWork.asked c.loop.takers c.next_task.new.takers c.loop.own c.next_task.new.own (answer_view c.loop.pass).pushed gets
          was.balanced;
      ran = was.ran;
    }

pub returns-then-last-clause-balanced : goal.returns-then-last-clause-balanced
returns-then-last-clause-balanced g c =
    let gets = subst (λ (task : Option g.row.W-Task.Denot). Gets c.loop.takers c.loop.own c.next_task.new.takers c.next_task.new.own task)
    c.in-None-next_task.is c.next_task.ensures in
    balances-still g.W.PoolWork.asked c.loop.takers c.next_task.new.takers c.loop.own c.next_task.new.own (answer_view c.loop.pass).pushed gets
    c.loop.invariant.balanced
