use Rattle.std.proofs.lemmas.Result.{IfOk-weaker}
use Rattle.ht_demo.proofs.Demonstrating.{demonstrates, received_fit}
use Rattle.ht_demo.proofs.demonstration.demo_line_of.Goals as goal

pub line-requires-clause-sums : goal.line-requires-clause-sums
line-requires-clause-sums c = received_fit c.args.plan.now c.args.frames.now c.args.results.now c.requires.received

pub returns : goal.returns
returns c =
    IfOk-weaker c.line.result _ _
    (λ line. demonstrates c.args.plan.now c.args.frames.now c.args.results.now line.items c.requires.plan c.requires.received)
    c.line.ensures
