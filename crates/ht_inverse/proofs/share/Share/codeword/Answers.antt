use Rattle.std.proofs.Common.{◌≡◌, ◌≤◌, ◌*◌, ◌∙◌, ℕ, ap, refl, arith, length, subst, sym}
use Rattle.std.proofs.lemmas.Result.{IfOk-weaker}
use Rattle.ht_rate.specs.Rates.{pattern_of, steps_of}
use Rattle.ht_viterbi.proofs.Turns.{distance-low}
use Rattle.ht_viterbi.specs.Packed.{word_steps}
use Rattle.ht_clean.specs.Sparse.{unpacked}
use Rattle.ht_inverse.specs.Received.{received_of}
use Rattle.ht_inverse.specs.Shares.{IsNearest, codeword_of}
use Rattle.ht_inverse.specs.Words.{HasSteps, opened}
use Rattle.ht_inverse.proofs.Codewords.{codeword-is, received-length}
use Rattle.ht_inverse.proofs.share.Share.codeword.Goals as goal

pub returns-clause-value : goal.returns-clause-value
returns-clause-value c =
    let s = c.args.self.now in
    let octets = c.args.frame.now.octets in
    let labels = c.args.frame.now.labels.now in
    let steps = c.codeword_steps-steps.result in
    IfOk-weaker c.nearest.result (λ p. IsNearest s.rate octets s.erased labels s.encoder steps (opened (pattern_of s.rate) steps p))
    (λ p. opened (pattern_of s.rate) (steps_of s.rate octets) p ≡ codeword_of s.rate octets s.erased labels s.encoder)
    (λ p found. ap (λ (n : ℕ). opened (pattern_of s.rate) n p) (sym c.codeword_steps-steps.ensures.value)
    ∙ codeword-is s.rate octets s.erased s.encoder steps labels (pattern_of s.rate) (received_of s.rate octets s.erased labels s.encoder)
    (opened (pattern_of s.rate) steps p) c.codeword_steps-steps.ensures.value refl refl (omega (arith, c.codeword_steps-steps.ensures.low)) found)
    c.nearest.ensures.found

pub returns-clause-steps : goal.returns-clause-steps
returns-clause-steps c =
    let s = c.args.self.now in
    IfOk-weaker c.nearest.result (λ p. HasSteps s.rate c.codeword_steps-steps.result p) (λ p. HasSteps s.rate (steps_of s.rate c.args.frame.now.octets) p)
    (λ p fits. subst (λ (n : ℕ). n ≤ word_steps (pattern_of s.rate) * length p.words.items) c.codeword_steps-steps.ensures.value fits)
    c.nearest.ensures.whole

pub returns-clause-few : goal.returns-clause-few
returns-clause-few c =
    let s = c.args.self.now in
    let octets = c.args.frame.now.octets in
    let labels = c.args.frame.now.labels.now in
    let steps = c.codeword_steps-steps.result in
    let received = received_of s.rate octets s.erased labels s.encoder in
    let many = received-length s.rate octets s.erased s.encoder steps labels (pattern_of s.rate) received c.codeword_steps-steps.ensures.value refl refl in
    IfOk-weaker c.nearest.result (λ p. IsNearest s.rate octets s.erased labels s.encoder steps (opened (pattern_of s.rate) steps p))
    (λ p. p.distance ≤ 1073741824)
    (λ p found.
    let far = found.cost in
    let low = distance-low (pattern_of s.rate) received (unpacked (pattern_of s.rate) p.words.items steps) steps many in
    omega (arith, far, low, c.codeword_steps-steps.ensures.high))
    c.nearest.ensures.found
