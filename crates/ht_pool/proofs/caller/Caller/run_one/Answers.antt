use Rattle.std.proofs.Common.{◌∙◌, ◌∷◌, [], sym, arith}
use Rattle.std.proofs.lemmas.List.Sums.{sum_by-append}
use Rattle.ht_pool.proofs.caller.Caller.run_one.Goals as goal

pub invariant_of-self-2 : goal.invariant_of-self-2
invariant_of-self-2 g c =
    let takes = c.in_ok-task.ensures.took in
    let was = c.self.invariant in
    let weight = g.W.PoolWork.weight in
    let task = c.in_ok-task.task in (
      was.0 ∙ sym takes.same.queue_is,
      omega (arith, was.1, takes.took weight, sum_by-append weight c.self.inside.caller_end.taken (task ∷ []), c.weigh.ensures),
    )
