use Rattle.ht_scramble.proofs.Period.{sequence-period, sequence-apart}
use Rattle.ht_scramble.proofs.laws.period.Goals as goal

pub returns-clause-again : goal.returns-clause-again
returns-clause-again c = sequence-period

pub returns-clause-not_before : goal.returns-clause-not_before
returns-clause-not_before c = sequence-apart
