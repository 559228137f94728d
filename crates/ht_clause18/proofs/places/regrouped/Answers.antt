use Rattle.ht_clause18.specs.Interleaver.{second}
use Rattle.ht_clause18.proofs.Interleaving.{second-bound}
use Rattle.ht_clause18.proofs.places.regrouped.Goals as goal

pub returns-clause-value : goal.returns-clause-value
unfolding second
returns-clause-value c = cc

pub returns-clause-bound : goal.returns-clause-bound
returns-clause-bound c = rw (returns-clause-value c) (second-bound c.args.rate c.args.i c.requires)
