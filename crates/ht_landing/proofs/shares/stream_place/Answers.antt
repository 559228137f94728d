use Rattle.std.proofs.Common.{◌+◌, ◌*◌, ◌/◌, ◌%◌, ◌<◌, arith, ap, ◌∙◌, refl}
use Rattle.ht_rate.specs.Rates.{stream_bits_of}
use Rattle.ht_rate.proofs.RateFacts.{stream_bits_of-range}
use Rattle.ht_landing.proofs.Parsed.{placed}
use Rattle.ht_landing.proofs.shares.stream_place.Goals as goal

-- the bit of the stream is one that the rate has
below : (c : goal.After-from) → c.from-encoders.result * c.from-group.result * (c.args.i / (c.from-streams.result * c.from-group.result))
    + c.from.result * c.from-group.result + c.args.i % c.from-group.result < stream_bits_of c.args.rate.now
below c =
    (placed c.args.rate.now c.args.encoder c.args.i c.from-encoders.result c.from-streams.result c.from-group.result _ _
    (c.from-encoders.ensures ∙ c.encoders.ensures.value) (c.from-streams.ensures ∙ c.streams.ensures.value)
    (c.from-group.ensures ∙ c.axis_bits.ensures.value)
    refl (ap (λ y. c.from-encoders.result * c.from-group.result * (c.args.i / (c.from-streams.result * c.from-group.result))
    + y * c.from-group.result + c.args.i % c.from-group.result) c.from.ensures)
    c.requires.encoder c.requires.share).3

pub overflow_mul-bit-3 : goal.overflow_mul-bit-3
overflow_mul-bit-3 c =
    let bit = c.from-encoders.result * c.from-group.result * (c.args.i / (c.from-streams.result * c.from-group.result))
    + c.args.encoder * c.from-group.result + c.args.i % c.from-group.result in
    let within : bit < stream_bits_of c.args.rate.now =
    (placed c.args.rate.now c.args.encoder c.args.i c.from-encoders.result c.from-streams.result c.from-group.result _ bit
    (c.from-encoders.ensures ∙ c.encoders.ensures.value) (c.from-streams.ensures ∙ c.streams.ensures.value)
    (c.from-group.ensures ∙ c.axis_bits.ensures.value)
    refl refl c.requires.encoder c.requires.share).3 in
    omega (arith, stream_bits_of-range c.args.rate.now)

pub overflow_add-bit : goal.overflow_add-bit
overflow_add-bit c = omega (arith, below c, stream_bits_of-range c.args.rate.now)

pub overflow_add-bit-2 : goal.overflow_add-bit-2
overflow_add-bit-2 c = omega (arith, below c, stream_bits_of-range c.args.rate.now)

pub overflow_cast-result-2 : goal.overflow_cast-result-2
overflow_cast-result-2 c = omega (arith, below c, stream_bits_of-range c.args.rate.now)

pub returns-clause-bit : goal.returns-clause-bit
returns-clause-bit c = below c
