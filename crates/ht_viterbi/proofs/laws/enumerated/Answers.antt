use Rattle.ht_viterbi.proofs.Enumerating.{enumerated}
use Rattle.ht_viterbi.proofs.laws.enumerated.Goals as goal

pub returns : goal.returns
returns c = enumerated
