use Rattle.std.proofs.Common.{◌≡◌, ◌∙◌, ◌+◌, ◌*◌, ◌≤◌, ℕ, List, ap, arith, length}
use Rattle.std.proofs.lemmas.Nat.{and_le_r}
use Rattle.ht_inverse.specs.declared.outcome.Outcome.TheVariants.{Octets}
use Rattle.ht_inverse.specs.Words.{word_bits}
use Rattle.ht_inverse.proofs.Descrambled.{octets-come, seven-are, word_bits-length, zero-comes}
use Rattle.ht_inverse.proofs.inputs.words_come_to.Goals as goal

pub returns-then-seven-eq0 : goal.returns-then-seven-eq0
returns-then-seven-eq0 c =
    let count : ℕ = 16 + 8 * c.args.octets in
    let some : 7 ≤ count = omega arith in
    zero-comes (word_bits c.args.pattern c.args.two c.args.first.now c.args.second.now count) _
    (seven-are c.args.pattern c.args.two c.args.first.now c.args.second.now count c.octet_at-seven.result some c.octet_at-seven.ensures) c.if-seven-eq0.true

pub returns : goal.returns
returns c =
    let count : ℕ = 16 + 8 * c.args.octets in
    let some : 7 ≤ count = omega arith in
    let bits = word_bits c.args.pattern c.args.two c.args.first.now c.args.second.now count in
    let long : length bits ≡ count = word_bits-length c.args.pattern c.args.two c.args.first.now c.args.second.now count in
    let low = and_le_r c.octet_at-seven.result 127 in
    ap (λ (os : List ℕ). Octets os) c.from.ensures
    ∙ octets-come bits _ c.in_ok-found.found.items (omega (arith, long, some)) (omega (arith, low)) (λ none. omega (arith, none, c.if-seven-eq0.false))
    (seven-are c.args.pattern c.args.two c.args.first.now c.args.second.now count c.octet_at-seven.result some c.octet_at-seven.ensures) c.in_ok-found.ensures
