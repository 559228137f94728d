use Rattle.std.proofs.Common.{arith}
use Rattle.ht_interleave.specs.Steps.{second_back}
use Rattle.ht_interleave.proofs.StepFacts.{second_back-bound, column-fits}
use Rattle.ht_interleave.proofs.places.regrouped_back.Goals as goal

pub overflow_mul-result-2 : goal.overflow_mul-result-2
overflow_mul-result-2 c = rw c.columns.ensures.value (omega (arith, column-fits c.args.rate.now c.args.j c.requires))

pub returns-clause-value : goal.returns-clause-value
unfolding second_back
returns-clause-value c = cc

pub returns-clause-bound : goal.returns-clause-bound
returns-clause-bound c = rw (returns-clause-value c) (second_back-bound c.args.rate.now c.args.j c.requires)
