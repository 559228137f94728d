use Rattle.ht_soft_rx.proofs.Alike.{alike}
use Rattle.ht_soft_rx.proofs.kind.WeightsKind.alike.Goals as goal

pub returns : goal.returns
returns c = λ same. alike c.args.head.now c.args.other.now (c.same.ensures.0 same)
