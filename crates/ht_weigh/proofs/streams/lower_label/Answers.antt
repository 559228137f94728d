use Rattle.std.proofs.Common.{◌∙◌, refl}
use Rattle.ht_weigh.proofs.Labels.{label_more, label_place}
use Rattle.ht_weigh.proofs.streams.lower_label.Goals as goal

pub loop-e-preserved : goal.loop-e-preserved
loop-e-preserved c = record {
  size = c.lower.ensures.size ∙ c.loop-e.invariant.size;
  lowered = label_more c.args.modulation c.args.label c.args.stream c.args.distance c.loop-e.e _ _ _ _ c.loop-e.invariant.lowered c.lower.ensures
      (label_place c.args.modulation c.args.label c.args.stream c.loop-e.e c.args.at c.from.result c.label_bits-bits.result _ _ c.is_one-value.result
      c.half.ensures.value c.is_one-value.ensures refl c.label_bits-bits.ensures.value c.from.ensures c.requires.at);
}
