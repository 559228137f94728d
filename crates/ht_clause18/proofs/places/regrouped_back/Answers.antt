use Rattle.ht_clause18.specs.Interleaver.{second_back}
use Rattle.ht_clause18.proofs.Interleaving.{second_back-bound}
use Rattle.ht_clause18.proofs.places.regrouped_back.Goals as goal

pub returns-clause-value : goal.returns-clause-value
unfolding second_back
returns-clause-value c = cc

pub returns-clause-bound : goal.returns-clause-bound
returns-clause-bound c = rw (returns-clause-value c) (second_back-bound c.args.rate c.args.j c.requires)
