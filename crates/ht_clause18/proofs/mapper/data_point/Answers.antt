use Rattle.std.proofs.Common.{◌+◌, ◌*◌, ◌^◌, ◌<◌, ◌∙◌, ap, sym, subst, refl, slice_range}
use Rattle.ht_rate.specs.Schemes.{bits_of}
use Rattle.ht_map.specs.Gray.{point_of}
use Rattle.ht_clause18.specs.Rates.{modulation_of}
use Rattle.ht_clause18.proofs.Mapping.{label-found, label-length, label-is}
use Rattle.ht_clause18.proofs.RateFacts.{label_bits_of-is}
use Rattle.ht_clause18.proofs.mapper.data_point.Goals as goal

pub label-requires-clause-inside : goal.label-requires-clause-inside
label-requires-clause-inside c =
    let b = c.from-count.result in
    let place = c.from.result * b in
    label-found c.args.rate c.args.sources.now (slice_range c.args.sources.now place (place + b)) c.args.bits.now c.args.m b place
    c.requires.sources c.requires.bits c.requires.carrier (c.from-count.ensures ∙ c.label_bits.ensures.value) (ap (λ x. x * b) c.from.ensures) refl

pub point-requires : goal.point-requires
point-requires c =
    let b = c.from-count.result in
    let place = c.from.result * b in
    let count = label-length c.args.rate c.args.sources.now (slice_range c.args.sources.now place (place + b)) c.args.bits.now c.args.m b place
    c.requires.sources c.requires.bits c.requires.carrier (c.from-count.ensures ∙ c.label_bits.ensures.value) (ap (λ x. x * b) c.from.ensures) refl in
    subst (λ n. c.label.result < 2 ^ n)
    (count ∙ c.from-count.ensures ∙ c.label_bits.ensures.value ∙ label_bits_of-is c.args.rate ∙ sym (ap bits_of c.modulation.ensures))
    c.label.ensures.below

pub returns : goal.returns
returns c =
    let b = c.from-count.result in
    let place = c.from.result * b in
    let is = label-is c.args.rate c.args.sources.now (slice_range c.args.sources.now place (place + b)) c.args.bits.now c.args.m b place
    c.requires.sources c.requires.bits c.requires.carrier (c.from-count.ensures ∙ c.label_bits.ensures.value) (ap (λ x. x * b) c.from.ensures) refl in
    c.point.ensures
    ∙ ap (λ m. point_of m c.label.result) c.modulation.ensures
    ∙ ap (point_of (modulation_of c.args.rate)) (c.label.ensures.value ∙ is)
