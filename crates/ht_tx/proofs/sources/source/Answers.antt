use Rattle.std.proofs.Common.{◌∙◌, ◌+◌, ◌/◌, ◌%◌, refl}
use Rattle.ht_tx.proofs.Parsed.{slot-parts, source_of_slot-is}
use Rattle.ht_tx.proofs.sources.source.Goals as goal

pub origin-requires-clause-place : goal.origin-requires-clause-place
origin-requires-clause-place c =
    (slot-parts c.args.rate.now c.args.slot c.from-label_bits.result c.from-streams.result
    (c.from-label_bits.ensures ∙ c.label_bits.ensures.value) (c.from-streams.ensures ∙ c.streams.ensures.value) c.requires.slot).3

pub returns : goal.returns
returns c =
    source_of_slot-is c.args.rate.now c.args.reach c.args.slot c.from-label_bits.result c.from-streams.result
    (c.args.slot / c.from-label_bits.result % c.from-streams.result + 1) c.origin.result c.parsed.result
    (c.from-label_bits.ensures ∙ c.label_bits.ensures.value) (c.from-streams.ensures ∙ c.streams.ensures.value) refl c.origin.ensures.value c.parsed.ensures
