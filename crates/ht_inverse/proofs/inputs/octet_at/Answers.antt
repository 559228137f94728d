use Rattle.std.proofs.Common.{◌∙◌, ◌+◌, ◌*◌, Bool, ap, arith, subst, sym}
use Rattle.ht_inverse.specs.Words.{Hold, word_bit}
use Rattle.ht_inverse.proofs.Descrambled.{turned-at}
use Rattle.ht_inverse.proofs.inputs.octet_at.Goals as goal

pub eight_bits-requires : goal.eight_bits-requires
eight_bits-requires c =
    let held = subst (λ (b : Bool). Hold c.args.pattern b c.args.first.now c.args.second.now c.args.octets) c.if-two.true c.requires.hold in
    omega (arith, held.0, c.requires.at)

pub eight_bits-requires-then-two : goal.eight_bits-requires-then-two
eight_bits-requires-then-two c =
    let held = subst (λ (b : Bool). Hold c.args.pattern b c.args.first.now c.args.second.now c.args.octets) c.if-two.true c.requires.hold in
    omega (arith, held.1, c.requires.at)

pub eight_bits-requires-else-two : goal.eight_bits-requires-else-two
eight_bits-requires-else-two c =
    let held = subst (λ (b : Bool). Hold c.args.pattern b c.args.first.now c.args.second.now c.args.octets) c.if-two.false c.requires.hold in
    omega (arith, held, c.requires.at)

pub returns-then-two : goal.returns-then-two
returns-then-two c = λ k lt.
    let first = c.args.first.now in
    let second = c.args.second.now in
    turned-at c.args.pattern first second c.in_turns.result c.eight_bits.result c.eight_bits-then-two.result c.args.at k c.in_turns.ensures
    c.eight_bits.ensures c.eight_bits-then-two.ensures lt
    ∙ ap (λ (b : Bool). word_bit c.args.pattern b first second (8 * c.args.at + k)) (sym c.if-two.true)

pub returns-else-two : goal.returns-else-two
returns-else-two c = λ k lt.
    c.eight_bits-else-two.ensures k lt
    ∙ ap (λ (b : Bool). word_bit c.args.pattern b c.args.first.now c.args.second.now (8 * c.args.at + k)) (sym c.if-two.false)
