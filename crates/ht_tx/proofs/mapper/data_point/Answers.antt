use Rattle.std.proofs.Common.{◌+◌, ◌*◌, ◌∙◌, ap, refl, slice_range}
use Rattle.ht_rate.specs.Rates.{label_bits_of, streams_of, modulation_of}
use Rattle.ht_tx.proofs.Wired.{part-inside, label-below, data-point}
use Rattle.ht_tx.proofs.mapper.data_point.Goals as goal

pub label-requires-clause-inside : goal.label-requires-clause-inside
label-requires-clause-inside c =
    let b = c.from-bits.result in
    let n = c.from-2.result in
    let slot = (c.from.result * n + c.from-3.result) * b in
    part-inside c.args.frame.now c.args.symbol c.args.carrier c.args.stream c.args.coded.now c.args.sources.now
    (slice_range c.args.sources.now slot (slot + b)) slot b n
    c.requires.wired c.requires.carrier c.requires.stream.0 c.requires.stream.1
    (c.from-bits.ensures ∙ c.label_bits.ensures.value ∙ ap label_bits_of c.rate-rate.ensures)
    (c.from-2.ensures ∙ c.streams.ensures.value ∙ ap streams_of c.rate-rate.ensures)
    (ap (λ x. (x * n + c.from-3.result) * b) c.from.ensures ∙ ap (λ x. (c.args.carrier * n + x) * b) c.from-3.ensures) refl

pub point-requires : goal.point-requires
point-requires c =
    let b = c.from-bits.result in
    let n = c.from-2.result in
    let slot = (c.from.result * n + c.from-3.result) * b in
    label-below c.args.frame.now c.args.carrier c.args.stream c.args.sources.now
    (slice_range c.args.sources.now slot (slot + b)) slot b n c.label.result c.modulation.result
    c.requires.wired.whole c.requires.carrier c.requires.stream.0 c.requires.stream.1
    (c.from-bits.ensures ∙ c.label_bits.ensures.value ∙ ap label_bits_of c.rate-rate.ensures)
    (c.from-2.ensures ∙ c.streams.ensures.value ∙ ap streams_of c.rate-rate.ensures)
    (ap (λ x. (x * n + c.from-3.result) * b) c.from.ensures ∙ ap (λ x. (c.args.carrier * n + x) * b) c.from-3.ensures) refl
    (c.modulation.ensures ∙ ap modulation_of c.rate-rate.ensures) c.label.ensures.below

pub returns : goal.returns
returns c =
    let b = c.from-bits.result in
    let n = c.from-2.result in
    let slot = (c.from.result * n + c.from-3.result) * b in
    data-point c.args.frame.now c.args.symbol c.args.carrier c.args.stream c.args.coded.now c.args.sources.now
    (slice_range c.args.sources.now slot (slot + b)) slot b n
    c.label.result c.modulation.result c.point.result c.requires.wired c.requires.carrier c.requires.stream.0 c.requires.stream.1
    (c.from-bits.ensures ∙ c.label_bits.ensures.value ∙ ap label_bits_of c.rate-rate.ensures)
    (c.from-2.ensures ∙ c.streams.ensures.value ∙ ap streams_of c.rate-rate.ensures)
    (ap (λ x. (x * n + c.from-3.result) * b) c.from.ensures ∙ ap (λ x. (c.args.carrier * n + x) * b) c.from-3.ensures) refl
    (c.modulation.ensures ∙ ap modulation_of c.rate-rate.ensures) c.label.ensures.below c.label.ensures.bits c.point.ensures
