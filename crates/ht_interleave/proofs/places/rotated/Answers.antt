use Rattle.ht_interleave.specs.Steps.{third}
use Rattle.ht_interleave.proofs.places.rotated.Goals as goal

pub returns-clause-value : goal.returns-clause-value
unfolding third
returns-clause-value c = cc
