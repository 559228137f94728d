use Rattle.std.proofs.Common.{◌≤◌, arith}
use Rattle.ht_rate.proofs.RateFacts.{streams_of-range}
use Rattle.ht_interleave.proofs.Inverse.{place_of-bound, origin_of-bound, origin_of-place_of, place_of-origin_of}
use Rattle.ht_interleave.proofs.laws.inverse.Goals as goal

pub returns : goal.returns
returns c =
    let high : c.args.stream ≤ 4 = omega (arith, streams_of-range c.args.rate.now) in
    record {
      origin_of_place = origin_of-place_of c.args.rate.now c.args.stream c.args.k c.requires.stream.0 high c.requires.bit;
      place_of_origin = place_of-origin_of c.args.rate.now c.args.stream c.args.k c.requires.stream.0 high c.requires.bit;
      place_bound = place_of-bound c.args.rate.now c.args.stream c.args.k c.requires.stream.0 high c.requires.bit;
      origin_bound = origin_of-bound c.args.rate.now c.args.stream c.args.k c.requires.stream.0 high c.requires.bit;
    }
