use Rattle.std.proofs.Common.{◌≡◌, ◌∙◌, ◌*◌, ◌≤◌, ℕ, List, Bool, Option, ap, arith, length, map, subst, sym}
use Rattle.std.proofs.lemmas.List.{length-map}
use Rattle.std.proofs.lemmas.Result.{IfOk-weaker}
use Rattle.ht_rate.specs.declared.kinds.Pattern.{Pattern}
use Rattle.ht_rate.specs.Rates.{pattern_of}
use Rattle.ht_viterbi.specs.Packed.{word_steps}
use Rattle.ht_viterbi.specs.declared.codeword.Codeword.{Codeword}
use Rattle.ht_viterbi.specs.declared.received_bit.ReceivedBit.{ReceivedBit}
use Rattle.ht_viterbi.specs.Received.{known_of}
use Rattle.ht_clean.specs.Sparse.{unpacked}
use Rattle.ht_inverse.specs.Shares.{IsNearest}
use Rattle.ht_inverse.specs.Words.{HasSteps, opened}
use Rattle.ht_inverse.proofs.Codewords.{found-nearest, received-length}
use Rattle.ht_inverse.proofs.Descrambled.{both-ok}
use Rattle.ht_inverse.proofs.share.Share.nearest_known.Goals as goal

-- the places of what was gathered
is-received : {bits items : List ReceivedBit} {received : List (Option Bool)} → bits ≡ items → map known_of items ≡ received → map known_of bits ≡ received
is-received same is = ap (λ (xs : List ReceivedBit). map known_of xs) same ∙ is

pub decode_received-requires-clause-received : goal.decode_received-requires-clause-received
decode_received-requires-clause-received c =
    let s = c.args.self.now in
    sym (length-map c.deref.result.now known_of)
    ∙ received-length s.rate c.args.frame.now.octets s.erased s.encoder c.args.steps c.args.frame.now.labels.now c.pattern-pattern.result
    (map known_of c.deref.result.now) c.requires.steps.2 c.pattern-pattern.ensures (is-received c.deref.ensures.value c.in_ok-received.ensures)

pub of-requires : goal.of-requires
of-requires c = let long = c.in_ok-codeword.ensures.steps in omega (arith, long, c.requires.steps.1)

pub returns-clause-found : goal.returns-clause-found
returns-clause-found c =
    let s = c.args.self.now in
    let steps = c.args.steps in
    let p = c.pattern-pattern.result in
    let u = c.in_ok-codeword.codeword in
    let r = s.rate in
    let octets = c.args.frame.now.octets in
    let labels = c.args.frame.now.labels.now in
    let received = map known_of c.deref.result.now in
    let nearest = found-nearest r octets s.erased s.encoder steps labels p received u c.pattern-pattern.ensures
    (is-received c.deref.ensures.value c.in_ok-received.ensures) c.in_ok-codeword.ensures in
    let made : List Bool → ℕ → Codeword = λ input distance. record { input = input; distance = distance } in
    both-ok c.of.result (λ q. unpacked p q.words.items (length u.input) ≡ u.input) (λ q. q.distance ≡ u.distance)
    (λ q. IsNearest r octets s.erased labels s.encoder steps (opened (pattern_of r) steps q))
    (λ q input distance.
    let same : u.input ≡ unpacked (pattern_of r) q.words.items steps =
    sym input
    ∙ (ap (λ (n : ℕ). unpacked p q.words.items n) c.in_ok-codeword.ensures.steps
    ∙ ap (λ (z : Pattern). unpacked z q.words.items steps) c.pattern-pattern.ensures) in
    subst (λ (n : ℕ). IsNearest r octets s.erased labels s.encoder steps (made (unpacked (pattern_of r) q.words.items steps) n)) (sym distance)
    (subst (λ (v : List Bool). IsNearest r octets s.erased labels s.encoder steps (made v u.distance)) same nearest))
    c.of.ensures.input c.of.ensures.distance

pub returns-clause-whole : goal.returns-clause-whole
returns-clause-whole c =
    let s = c.args.self.now in
    let u = c.in_ok-codeword.codeword in
    IfOk-weaker c.of.result (λ q. length u.input ≤ word_steps c.pattern-pattern.result * length q.words.items) (λ q. HasSteps s.rate c.args.steps q)
    (λ q fits. subst (λ (n : ℕ). n ≤ word_steps (pattern_of s.rate) * length q.words.items) c.in_ok-codeword.ensures.steps
    (subst (λ (z : Pattern). length u.input ≤ word_steps z * length q.words.items) c.pattern-pattern.ensures fits)) c.of.ensures.whole
