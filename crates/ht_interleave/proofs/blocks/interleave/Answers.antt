use Rattle.std.proofs.Common.{◌≤◌, arith}
use Rattle.ht_rate.specs.Rates.{stream_bits_of}
use Rattle.ht_rate.proofs.RateFacts.{streams_of-range}
use Rattle.ht_interleave.proofs.Only.{gathered-interleaved}
use Rattle.ht_interleave.proofs.blocks.interleave.Goals as goal

pub returns-clause-interleaved : goal.returns-clause-interleaved
returns-clause-interleaved c =
    let high : c.args.stream ≤ 4 = omega (arith, streams_of-range c.args.rate.now) in
    let end : stream_bits_of c.args.rate.now ≤ c.loop-r.r = omega arith in
    gathered-interleaved c.args.rate.now c.args.stream c.args.from.now c.loop-r.into c.loop-r.r c.requires.stream.0 high
    c.requires.from_size c.loop-r.invariant.size end c.loop-r.invariant.done
