use Rattle.std.proofs.Common.{◌-◌, ◌/◌, arith}
use Rattle.ht_soft.proofs.Cuts.{i-half, q-half}
use Rattle.ht_soft.proofs.halves.half_axes.Goals as goal

pub returns-then-bit-first : goal.returns-then-bit-first
returns-then-bit-first c =
    i-half c.args.modulation c.args.bit c.args.value (c.label_bits.result - c.label_bits-last.result / 2) c.cut.result c.args.all
    (omega (arith, c.label_bits.ensures.value, c.label_bits-last.ensures.value)) c.if-bit-first.true c.requires.all c.cut.ensures

pub returns-else-bit-first : goal.returns-else-bit-first
returns-else-bit-first c =
    q-half c.args.modulation c.args.bit c.args.value (c.label_bits-last.result / 2) (c.label_bits.result - c.label_bits-last.result / 2)
    c.cut-else-bit-first.result c.args.all (omega (arith, c.label_bits-last.ensures.value))
    (omega (arith, c.label_bits.ensures.value, c.label_bits-last.ensures.value)) c.if-bit-first.false c.requires.bit c.requires.all
    c.cut-else-bit-first.ensures
