use Rattle.std.proofs.Common.{◌∙◌, ◌*◌, ◌≤◌, ℕ, List, ap, sym, subst, length}
use Rattle.std.proofs.lemmas.Result.{IfOk-weaker}
use Rattle.ht_rate.specs.declared.kinds.Pattern.{Pattern}
use Rattle.ht_rate.specs.Rates.{pattern_of, steps_of}
use Rattle.ht_conv.specs.Puncturing.{sent_count}
use Rattle.ht_viterbi.specs.Inputs.{IsFound, place_cost}
use Rattle.ht_viterbi.specs.Packed.{packed, word_steps}
use Rattle.ht_clean.specs.Sparse.{unpacked}
use Rattle.ht_inverse.specs.Shares.{IsNearest}
use Rattle.ht_inverse.specs.Words.{HasSteps, opened}
use Rattle.ht_inverse.proofs.Codewords.{found-nearest}
use Rattle.ht_inverse.proofs.share.Share.nearest_whole.Goals as goal

pub decode_words-requires-clause-places : goal.decode_words-requires-clause-places
decode_words-requires-clause-places c =
    let s = c.args.self.now in
    subst (λ (ws : List ℕ). sent_count c.pattern.result c.args.steps ≤ 60 * length ws) (sym c.deref.ensures.value)
    (subst (λ (n : ℕ). sent_count c.pattern.result n ≤ 60 * length c.in_ok-words.words.items) (sym c.requires.steps.2)
    (subst (λ (p : Pattern). sent_count p (steps_of s.rate c.args.frame.now.octets) ≤ 60 * length c.in_ok-words.words.items)
    (sym c.pattern.ensures) c.in_ok-words.ensures.places))

pub returns-clause-found : goal.returns-clause-found
returns-clause-found c =
    let s = c.args.self.now in
    let steps = c.args.steps in
    let p = c.pattern.result in
    let words = c.deref.result.now in
    let octets = c.args.frame.now.octets in
    let labels = c.args.frame.now.labels.now in
    IfOk-weaker c.decode_words.result
    (λ packed-input. IsFound place_cost steps p (packed words (sent_count p steps)) (unpacked p packed-input.words.items steps) packed-input.distance)
    (λ packed-input. IsNearest s.rate octets s.erased labels s.encoder steps (opened (pattern_of s.rate) steps packed-input))
    (λ packed-input found. subst (λ (q : Pattern). IsNearest s.rate octets s.erased labels s.encoder steps (opened q steps packed-input)) c.pattern.ensures
    (found-nearest s.rate octets s.erased s.encoder steps labels p (packed words (sent_count p steps)) (opened p steps packed-input) c.pattern.ensures
    (ap (λ (q : Pattern). packed words (sent_count q steps)) c.pattern.ensures
    ∙ (ap (λ (n : ℕ). packed words (sent_count (pattern_of s.rate) n)) c.requires.steps.2
    ∙ (ap (λ (ws : List ℕ). packed ws (sent_count (pattern_of s.rate) (steps_of s.rate octets))) c.deref.ensures.value ∙ c.in_ok-words.ensures.list))) found))
    c.decode_words.ensures.found

pub returns-clause-whole : goal.returns-clause-whole
returns-clause-whole c =
    let s = c.args.self.now in
    IfOk-weaker c.decode_words.result (λ p. c.args.steps ≤ word_steps c.pattern.result * length p.words.items) (λ p. HasSteps s.rate c.args.steps p)
    (λ p fits. subst (λ (q : Pattern). c.args.steps ≤ word_steps q * length p.words.items) c.pattern.ensures fits) c.decode_words.ensures.whole
