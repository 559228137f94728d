use Rattle.ht_scramble.proofs.Shifts.{shifted-is, shifted-lt}
use Rattle.ht_scramble.proofs.scrambler.shifted.Goals as goal

pub returns-clause-next : goal.returns-clause-next
returns-clause-next c = λ seed t is latest. shifted-is c.args.register seed t c.args.latest c.from.result c.requires c.from.ensures is latest

pub returns-clause-bound : goal.returns-clause-bound
returns-clause-bound c = shifted-lt c.args.register c.args.latest c.from.result c.requires c.from.ensures
