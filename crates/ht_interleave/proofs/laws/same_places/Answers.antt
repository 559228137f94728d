use Rattle.std.proofs.Common.{◌≤◌, arith}
use Rattle.ht_rate.proofs.RateFacts.{streams_of-range}
use Rattle.ht_interleave.proofs.Only.{same_places}
use Rattle.ht_interleave.proofs.laws.same_places.Goals as goal

pub returns : goal.returns
returns c =
    let high : c.args.stream ≤ 4 = omega (arith, streams_of-range c.args.rate.now) in
    same_places c.args.rate.now c.args.stream c.args.bits.now c.args.a.now c.args.b.now c.requires.stream.0 high c.requires.a c.requires.b
