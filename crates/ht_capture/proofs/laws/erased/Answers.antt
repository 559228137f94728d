use Rattle.ht_capture.proofs.Erased.{flags_marked, none_marked}
use Rattle.ht_capture.proofs.laws.erased.Goals as goal

pub returns-clause-flags : goal.returns-clause-flags
returns-clause-flags c = λ turn at octets head two is. (flags_marked turn at octets head is.0 two is.1).0

pub returns-clause-no_more : goal.returns-clause-no_more
returns-clause-no_more c = λ turn at octets head two is. (flags_marked turn at octets head is.0 two is.1).1

pub returns-clause-none : goal.returns-clause-none
returns-clause-none c = λ turn at octets head one is. none_marked turn at octets head is.0 one is.1
