use Rattle.ht_clean.proofs.Flags.{cut}
use Rattle.ht_clean.proofs.planes.low_bits.Goals as goal

pub returns-clause-within : goal.returns-clause-within
returns-clause-within c = λ place lt. cut c.args.word c.args.count place c.requires lt
