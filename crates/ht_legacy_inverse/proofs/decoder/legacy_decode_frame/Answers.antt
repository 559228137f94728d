use Rattle.std.proofs.Common.{◌≡◌, ◌∙◌, ◌*◌, ◌≤◌, ℕ, List, Bool, Option, ap, arith, length, refl, subst, sym}
use Rattle.ht_clause18.specs.Rates.{needed_bits, pattern_of}
use Rattle.ht_conv.specs.Puncturing.{sent_count}
use Rattle.ht_rate.specs.declared.kinds.Pattern.{Pattern}
use Rattle.ht_viterbi.specs.Packed.{packed}
use Rattle.ht_legacy_inverse.specs.Received.{received_of}
use Rattle.ht_inverse.specs.Decoding.{outcome_of}
use Rattle.ht_inverse.specs.Words.{opened}
use Rattle.ht_legacy_inverse.proofs.Codewords.{codeword-is, frame-is, front-held, front-is}
use Rattle.ht_legacy_inverse.proofs.decoder.legacy_decode_frame.Goals as goal

pub decode_words-requires-clause-places : goal.decode_words-requires-clause-places
decode_words-requires-clause-places c =
    let words = c.in_ok-words.words.items in
    subst (λ (ws : List ℕ). sent_count c.pattern-pattern.result c.steps.result ≤ 60 * length ws) (sym c.as_slice.ensures.value)
    (subst (λ (n : ℕ). sent_count c.pattern-pattern.result n ≤ 60 * length words) (sym c.steps.ensures.value)
    (subst (λ (p : Pattern). sent_count p (needed_bits c.args.octets) ≤ 60 * length words) (sym c.pattern-pattern.ensures) c.in_ok-words.ensures.places))

pub input_comes_to-requires : goal.input_comes_to-requires
input_comes_to-requires c =
    front-held c.pattern-pattern.result c.as_slice-2.result.now c.in_ok-codeword.codeword.words.items c.args.octets c.steps.result
    c.as_slice-2.ensures.value c.steps.ensures.value c.in_ok-codeword.ensures.whole

pub returns : goal.returns
returns c =
    let p = c.pattern-pattern.result in
    let codeword = opened p c.steps.result c.in_ok-codeword.codeword in
    let r = c.args.rate in
    let labels = c.args.labels.now in
    let steps = c.steps.ensures.value in
    let words = c.as_slice.result.now in
    let received : List (Option Bool) = packed words (sent_count p c.steps.result) in
    let are : received ≡ received_of r c.args.octets labels =
    ap (λ (q : Pattern). packed words (sent_count q c.steps.result)) c.pattern-pattern.ensures
    ∙ (ap (λ (n : ℕ). packed words (sent_count (pattern_of r) n)) steps
    ∙ (ap (λ (ws : List ℕ). packed ws (sent_count (pattern_of r) (needed_bits c.args.octets))) c.as_slice.ensures.value ∙ c.in_ok-words.ensures.list)) in
    let found = codeword-is r c.args.octets c.steps.result labels p received codeword steps c.pattern-pattern.ensures are
    (omega (arith, steps)) c.in_ok-codeword.ensures.found in
    let front = front-is p c.as_slice-2.result.now c.in_ok-codeword.codeword.words.items c.args.octets c.steps.result
    c.as_slice-2.ensures.value steps in
    frame-is r c.args.octets labels codeword c.in_ok-outcome.outcome
    (record { outcome = c.in_ok-outcome.outcome; code = codeword.distance }) found (c.in_ok-outcome.ensures ∙ ap outcome_of front) refl
