use Rattle.ht_interleave.specs.Steps.{second}
use Rattle.ht_interleave.proofs.StepFacts.{second-bound}
use Rattle.ht_interleave.proofs.places.regrouped.Goals as goal

pub returns-clause-value : goal.returns-clause-value
unfolding second
returns-clause-value c = cc

pub returns-clause-bound : goal.returns-clause-bound
returns-clause-bound c = rw (returns-clause-value c) (second-bound c.args.rate.now c.args.i c.requires)
