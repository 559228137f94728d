use Rattle.std.proofs.Common.{◌≤◌, arith}
use Rattle.ht_rate.specs.Rates.{stream_bits_of}
use Rattle.ht_rate.proofs.RateFacts.{streams_of-range}
use Rattle.ht_interleave.proofs.Only.{gathered-scattered}
use Rattle.ht_interleave.proofs.blocks.deinterleave.Goals as goal

pub returns-clause-scattered : goal.returns-clause-scattered
returns-clause-scattered c =
    let high : c.args.stream ≤ 4 = omega (arith, streams_of-range c.args.rate.now) in
    let end : stream_bits_of c.args.rate.now ≤ c.loop-k.k = omega arith in
    gathered-scattered c.args.rate.now c.args.stream c.args.from.now c.loop-k.into c.loop-k.k c.requires.stream.0 high end c.loop-k.invariant.done
