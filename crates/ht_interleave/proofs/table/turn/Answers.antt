use Rattle.std.proofs.Common.{arith}
use Rattle.ht_rate.proofs.RateFacts.{streams_of-range}
use Rattle.ht_interleave.proofs.Rotation.{turn-is, turn_of-bound}
use Rattle.ht_interleave.proofs.table.turn.Goals as goal

pub returns-clause-value : goal.returns-clause-value
returns-clause-value c =
    turn-is c.args.rate.now c.args.stream c.from-earlier.result c.rotation.result c.from.result c.from-earlier.ensures c.rotation.ensures.value (cc)

pub returns-clause-bound : goal.returns-clause-bound
returns-clause-bound c =
    rw (returns-clause-value c)
    (turn_of-bound c.args.rate.now c.args.stream c.requires.0 (omega (arith, streams_of-range c.args.rate.now)))
