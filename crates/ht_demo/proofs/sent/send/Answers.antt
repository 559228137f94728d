use Rattle.std.proofs.Common.{◌∙◌, arith}
use Rattle.ht_demo.proofs.Passing.{planned_few}
use Rattle.ht_demo.proofs.sent.send.Goals as goal

pub capture-requires : goal.capture-requires
capture-requires c = planned_few c.args.plan.now c.deref.result.now (c.deref.ensures.value ∙ c.in_ok-frames.ensures) (omega arith)
