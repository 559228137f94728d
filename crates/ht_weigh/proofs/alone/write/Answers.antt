use Rattle.std.proofs.Common.{rules, ◌∙◌, ◌<◌, false, true, SFits, w32, to_z-of_z, arith, refl}
use Rattle.std.proofs.Math.ListN.{length-set}
use Rattle.ht_rate.specs.Schemes.{bits_of}
use Rattle.ht_soft.specs.Weights.{weight_of}
use Rattle.ht_weigh.specs.Walks.{half_cost}
use Rattle.ht_weigh.proofs.Labels.{bit_is}
use Rattle.ht_weigh.proofs.OneStream.{other_above, told_more, weight_told}
use Rattle.ht_weigh.proofs.alone.write.Goals as goal

pub weight-requires : goal.weight-requires
weight-requires c =
    other_above c.args.modulation c.loop-bit.bit c.args.label _ _ _ c.args.costs.0 c.args.costs.1 c.other_cost-other.result
    (omega (arith, c.loop-bit-test.true, c.label_bits-bits.ensures.value)) c.requires.named c.other_cost-other.ensures.value

pub loop-bit-preserved : goal.loop-bit-preserved
loop-bit-preserved c =
    let m = c.args.modulation in
    let bit = c.loop-bit.bit in
    let within : bit < bits_of m = omega (arith, c.loop-bit-test.true, c.label_bits-bits.ensures.value) in
    let fits : SFits w32 c.weight.result = search rules in
    let value = bit_is m c.args.label bit c.label_bits-bits.result _ c.is_one.result c.is_one.ensures refl c.label_bits-bits.ensures.value in
    let told = weight_told m bit c.args.label c.args.left.now.re c.args.left.now.im c.args.left.now.d c.args.costs.0 c.args.costs.1 c.other_cost-other.result
    c.is_one.result c.weight.result within c.requires.named value c.other_cost-other.ensures.value c.weight.ensures in
    record {
      size = length-set c.loop-bit.weights c.from.result _ ∙ c.loop-bit.invariant.size;
      weights = told_more
          (λ e. weight_of (half_cost m e false 0 c.args.left.now.re c.args.left.now.im c.args.left.now.d)
          (half_cost m e true 0 c.args.left.now.re c.args.left.now.im c.args.left.now.d)) c.loop-bit.weights bit c.from.result c.weight.result _
          c.from.ensures (omega (arith, within, c.loop-bit.invariant.size, c.requires.size)) (to_z-of_z fits) told c.loop-bit.invariant.weights;
    }
