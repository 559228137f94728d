use Rattle.std.proofs.Common.{◌≡◌, ◌∙◌, ℕ, not, arith, refl, ap, subst}
use Rattle.ht_rate.specs.Schemes.{bits_of}
use Rattle.ht_weigh.specs.Leasts.{IsLowered}
use Rattle.ht_weigh.specs.Walks.{TellsOthers}
use Rattle.ht_weigh.proofs.Labels.{others_more, bit_is, other_told}
use Rattle.ht_weigh.proofs.first.lower_others.Goals as goal

pub loop-bit-preserved : goal.loop-bit-preserved
loop-bit-preserved c =
    let value = ap not (bit_is c.args.modulation c.args.label c.loop-bit.bit c.label_bits-bits.result _ c.is_one-value.result c.is_one-value.ensures refl
    c.label_bits-bits.ensures.value) in
    record {
      size = c.lower.ensures.size ∙ c.loop-bit.invariant.size;
      lowered = others_more c.args.modulation c.args.label c.args.partial _ _ _ c.loop-bit.bit _ _ _ _ value c.loop-bit.invariant.lowered
          (other_told c.args.modulation c.loop-bit.bit c.from.result (not c.is_one-value.result) c.args.partial c.from-in-loop-bit.result
          c.other_cost-cost.result _ _ _ _ _ _ _ value c.other_cost-cost.ensures.value c.from-in-loop-bit.ensures c.half.ensures.value c.from.ensures
          c.lower.ensures);
    }

pub returns : goal.returns
returns c =
    let all : c.loop-bit.bit ≡ bits_of c.args.modulation = omega (arith, c.loop-bit-test.false, c.loop-bit.auto.bit-end, c.label_bits-bits.ensures.value) in
    subst (λ (k : ℕ). IsLowered (TellsOthers c.args.modulation c.args.label c.args.partial c.args.left.now.re c.args.left.now.im c.args.left.now.d k)
    c.args.leasts.now c.loop-bit.leasts) all c.loop-bit.invariant.lowered
