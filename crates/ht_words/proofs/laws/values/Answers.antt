use Rattle.ht_words.proofs.Spelling.{value_given, value_left}
use Rattle.ht_words.proofs.laws.values.Goals as goal

pub returns-clause-given : goal.returns-clause-given
returns-clause-given c = λ options pairs pair are here. value_given pairs pair are.once here

pub returns-clause-default : goal.returns-clause-default
returns-clause-default c = λ pairs setting none. value_left pairs setting none
