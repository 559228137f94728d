use Rattle.ht_cli.proofs.Accepted.{ends_accepted, usage_always, usage_only}
use Rattle.ht_cli.proofs.laws.clauses_of_words.Goals as goal

pub returns-clause-only : goal.returns-clause-only
returns-clause-only c = λ words a b k l. usage_only a b k l words

pub returns-clause-always : goal.returns-clause-always
returns-clause-always c = λ words a b k l status. usage_always a b k l words status

pub returns-clause-accepted : goal.returns-clause-accepted
returns-clause-accepted c = λ words a b k l status. ends_accepted a b k l words status
