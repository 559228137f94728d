use Rattle.std.proofs.Common.{◌∙◌, arith}
use Rattle.ht_tx.proofs.Parsed.{parsed-out, parsed-fits}
use Rattle.ht_tx.proofs.sources.parsed.Goals as goal

pub overflow_add-result-2 : goal.overflow_add-result-2
overflow_add-result-2 c =
    let out =
    parsed-out c.args.rate.now c.args.stream c.args.k c.args.reach
    c.from-bit.result c.from.result c.from-encoders.result c.from-2.result c.from-group.result
    c.from-bit.ensures c.from.ensures (c.from-encoders.ensures ∙ c.encoders.ensures.value)
    (c.from-2.ensures ∙ c.streams.ensures.value) (c.from-group.ensures ∙ c.axis_bits.ensures.value) in
    let bound = parsed-fits c.args.rate.now c.args.stream c.args.k c.args.reach c.requires.stream.0 c.requires.stream.1 c.requires.bit c.requires.reach in
    omega arith

pub returns : goal.returns
returns c =
    parsed-out c.args.rate.now c.args.stream c.args.k c.args.reach
    c.from-bit.result c.from.result c.from-encoders.result c.from-2.result c.from-group.result
    c.from-bit.ensures c.from.ensures (c.from-encoders.ensures ∙ c.encoders.ensures.value)
    (c.from-2.ensures ∙ c.streams.ensures.value) (c.from-group.ensures ∙ c.axis_bits.ensures.value)
