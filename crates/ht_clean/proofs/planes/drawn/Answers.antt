use Rattle.ht_clean.proofs.Flags.{drawn}
use Rattle.ht_clean.proofs.planes.drawn.Goals as goal

pub returns : goal.returns
returns c = λ place origin is. drawn c.args.bits c.args.shift c.args.stage place origin is
