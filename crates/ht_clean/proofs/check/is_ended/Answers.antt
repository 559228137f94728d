use Rattle.std.proofs.Common.{arith}
use Rattle.ht_clean.proofs.Words.{ended}
use Rattle.ht_clean.proofs.check.is_ended.Goals as goal

pub returns : goal.returns
returns c = λ _.
    ended c.args.pattern c.args.input.now c.args.steps c.requires.least
    (λ k le lt. c.loop-step.invariant k le (omega (arith, c.loop-step-test.false, lt)))
