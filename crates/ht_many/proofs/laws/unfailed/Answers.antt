use Rattle.ht_many.proofs.Ended.{unfailed_ends, unfailed_same, unfailed_text}
use Rattle.ht_many.proofs.laws.unfailed.Goals as goal

pub returns-clause-ends : goal.returns-clause-ends
returns-clause-ends k = λ end a b c d l reads puts. unfailed_ends a b c d end l reads puts

pub returns-clause-text : goal.returns-clause-text
returns-clause-text k = unfailed_text

pub returns-clause-same : goal.returns-clause-same
returns-clause-same k = unfailed_same
