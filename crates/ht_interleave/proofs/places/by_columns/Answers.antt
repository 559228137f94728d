use Rattle.ht_interleave.specs.Steps.{first}
use Rattle.ht_interleave.proofs.StepFacts.{first-bound}
use Rattle.ht_interleave.proofs.places.by_columns.Goals as goal

pub returns-clause-value : goal.returns-clause-value
unfolding first
returns-clause-value c = cc

pub returns-clause-bound : goal.returns-clause-bound
returns-clause-bound c = rw (returns-clause-value c) (first-bound c.args.rate.now c.args.k c.requires)
