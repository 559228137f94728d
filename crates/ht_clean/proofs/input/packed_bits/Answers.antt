use Rattle.std.proofs.Common.{arith}
use Rattle.ht_clean.proofs.Inputs.{all-packed}
use Rattle.ht_clean.proofs.input.packed_bits.Goals as goal

pub returns-clause-bits : goal.returns-clause-bits
returns-clause-bits c =
    all-packed c.args.pattern c.args.bits.now c.loop-at.words.items c.loop-at.at c.div_ceil-count.result c.steps_of_word-width.result
    c.steps_of_word-width.ensures.value c.div_ceil-count.ensures (omega (arith, c.loop-at-test.false)) c.loop-at.invariant.bits
