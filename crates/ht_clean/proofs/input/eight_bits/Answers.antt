use Rattle.std.proofs.Common.{◌∙◌, ◌%◌, ◌<◌, arith}
use Rattle.std.proofs.Common.{mod-lt}
use Rattle.ht_clean.proofs.Flags.{flag-shr}
use Rattle.ht_clean.proofs.Inputs.{across, here-is}
use Rattle.ht_clean.proofs.input.eight_bits.Goals as goal

pub returns-then-start-width : goal.returns-then-start-width
returns-then-start-width c = λ k lt.
    let width = c.steps_of_word-width.result in
    c.low_bits.ensures.within k lt
    ∙ (flag-shr _ (c.args.from % width) k
    ∙ here-is c.args.pattern c.args.words.now c.args.from width k c.steps_of_word-width.ensures.value (omega (arith, c.if-start-width.true, lt)))

pub returns-else-start-width : goal.returns-else-start-width
returns-else-start-width c = λ k lt.
    let width = c.steps_of_word-width.result in
    let least = c.steps_of_word-width.ensures.least in
    let most = c.steps_of_word-width.ensures.most in
    let low : c.args.from % width < width = mod-lt c.args.from (omega (arith, least)) in
    c.low_bits-else-start-width-2.ensures.within k lt
    ∙ across c.args.pattern c.args.words.now c.args.from width k c.low_bits-else-start-width.result c.steps_of_word-width.ensures.value (omega (arith, most))
    (omega (arith, least)) low lt c.low_bits-else-start-width.ensures.within c.low_bits-else-start-width.ensures.bound
