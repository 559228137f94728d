use Rattle.ht_clause18.specs.Interleaver.{first}
use Rattle.ht_clause18.proofs.Interleaving.{first-bound}
use Rattle.ht_clause18.proofs.places.by_columns.Goals as goal

pub returns-clause-value : goal.returns-clause-value
unfolding first
returns-clause-value c = cc

pub returns-clause-bound : goal.returns-clause-bound
returns-clause-bound c = rw (returns-clause-value c) (first-bound c.args.rate c.args.k c.requires)
