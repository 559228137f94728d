use Rattle.std.proofs.Common.{◌≡◌, ◌*◌, ℕ, arith, min, refl, subst}
use Rattle.ht_conv.specs.Puncturing.{sent_count}
use Rattle.ht_viterbi.specs.Packed.{packed, word_steps}
use Rattle.ht_clean.specs.Sparse.{IsPoured, unpacked}
use Rattle.ht_clean.proofs.Words.{all-poured}
use Rattle.ht_clean.proofs.check.wrong_if_sparse.Goals as goal

pub returns : goal.returns
returns c =
    let done : c.loop-at.at ≡ c.div_ceil-count.result = omega (arith, c.loop-at-test.false, c.loop-at.auto.at-end) in
    all-poured c.args.pattern c.args.words.now c.args.input.now c.args.steps c.div_ceil-count.result c.steps_of_word.result
    c.loop-at.bucket.level c.loop-at.bucket.wrong c.requires.least c.steps_of_word.ensures.value c.div_ceil-count.ensures (c.if-not-is_ended.ensures refl)
    (subst (λ (n : ℕ). IsPoured c.args.pattern (packed c.args.words.now (sent_count c.args.pattern c.args.steps))
    (unpacked c.args.pattern c.args.input.now c.args.steps) (min (n * word_steps c.args.pattern) c.args.steps) c.loop-at.bucket.level c.loop-at.bucket.wrong)
    done c.loop-at.invariant.poured)
