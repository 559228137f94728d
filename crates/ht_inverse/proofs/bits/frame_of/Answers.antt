use Rattle.std.proofs.Common.{ℕ, ◌+◌, ◌-◌, ◌*◌, ◌∙◌, ap}
use Rattle.ht_rate.specs.Rates.{encoders_of, pattern_of, steps_of}
use Rattle.ht_inverse.specs.declared.decoded.Decoded.{Decoded}
use Rattle.ht_inverse.specs.declared.outcome.Outcome.{Outcome}
use Rattle.ht_inverse.specs.Decoding.{decoded_frame, outcome_of, scrambled_bits}
use Rattle.ht_inverse.specs.Words.{opened}
use Rattle.ht_inverse.proofs.Codewords.{code-is, scrambled-is}
use Rattle.ht_inverse.proofs.Descrambled.{held, joined-held}
use Rattle.ht_inverse.proofs.bits.frame_of.Goals as goal

pub words_come_to-requires-clause-hold : goal.words_come_to-requires-clause-hold
words_come_to-requires-clause-hold c =
    held c.args.rate.now c.args.octets c.from.result c.encoders-two.result c.pattern.result c.args.first.words.items c.args.second.words.items
    c.deref.result.now c.deref-2.result.now c.pattern.ensures c.encoders-two.ensures.value c.from.ensures c.deref.ensures.value c.deref-2.ensures.value
    c.requires.first c.requires.second

pub returns : goal.returns
unfolding decoded_frame
returns c = λ erased labels are.
    let r = c.args.rate.now in
    let octets = c.args.octets in
    let first = opened (pattern_of r) (steps_of r octets) c.args.first in
    let second = opened (pattern_of r) ((encoders_of r - 1) * steps_of r octets) c.args.second in
    let made : Outcome → ℕ → Decoded = λ o n. record { outcome = o; code = n } in
    let joined = joined-held r octets c.from.result c.encoders-two.result c.pattern.result c.args.first.words.items c.args.second.words.items
    c.deref.result.now c.deref-2.result.now c.pattern.ensures c.encoders-two.ensures.value c.from.ensures c.deref.ensures.value c.deref-2.ensures.value in
    ap (λ o. made o (c.args.first.distance + c.args.second.distance))
    (c.in_ok-outcome.ensures ∙ ap outcome_of (joined ∙ scrambled-is r octets erased labels first second are))
    ∙ ap (made (outcome_of (scrambled_bits r octets erased labels))) (code-is r octets erased labels first second are)
