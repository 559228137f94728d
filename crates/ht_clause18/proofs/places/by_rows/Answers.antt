use Rattle.ht_clause18.specs.Interleaver.{first_back}
use Rattle.ht_clause18.proofs.Interleaving.{first_back-bound}
use Rattle.ht_clause18.proofs.places.by_rows.Goals as goal

pub returns-clause-value : goal.returns-clause-value
unfolding first_back
returns-clause-value c = cc

pub returns-clause-bound : goal.returns-clause-bound
returns-clause-bound c = rw (returns-clause-value c) (first_back-bound c.args.rate c.args.i c.requires)
