use Rattle.ht_inverse.proofs.Descrambled.{in-turns}
use Rattle.ht_inverse.proofs.inputs.in_turns.Goals as goal

pub returns : goal.returns
returns c = λ k lt. in-turns c.args.first c.args.second c.from.result c.from-2.result k c.from.ensures c.from-2.ensures lt
