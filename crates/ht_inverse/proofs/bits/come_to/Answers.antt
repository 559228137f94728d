use Rattle.std.proofs.Common.{◌≡◌, ℕ, List, Bool, take, drop, replicate, false, true≢false, refl, ap, sym, ◌∙◌, arith}
use Rattle.std.specs.Prelude.{◌≢◌}
use Rattle.std.proofs.lemmas.List.{take_rest, length-take-le}
use Rattle.ht_bits.specs.Bits.{octets_of}
use Rattle.ht_scramble.specs.Sequence.{scrambled, seed_of}
use Rattle.ht_inverse.specs.declared.outcome.Outcome.TheVariants.{Octets}
use Rattle.ht_inverse.proofs.Outcomes.{octets-is, zero-is}
use Rattle.ht_inverse.proofs.bits.come_to.Goals as goal

pub returns-in_default : goal.returns-in_default
returns-in_default c = sym (zero-is c.args.bits.now (sym c.first_seven.ensures ∙ c.in_default.ensures.none.0 refl))

pub returns : goal.returns
returns c =
    let bits = c.args.bits.now in
    let enough = c.requires.service in
    let seed : c.in-Some.seed ≡ seed_of (take 7 bits) = c.in-Some.ensures.value ∙ ap seed_of c.first_seven.ensures in
    let some : take 7 bits ≢ replicate 7 false = λ zeros. true≢false (c.in-Some.ensures.none.1 (c.first_seven.ensures ∙ zeros)) in
    ap (λ (os : List ℕ). Octets os) (c.from.ensures ∙ c.in_ok-octets.ensures.octets)
    ∙ (ap (λ (b : List Bool). Octets (octets_of b)) (take_rest c.scramble.new.bits 16 ∙ ap (λ (b : List Bool). drop 16 b) c.scramble.ensures)
    ∙ (ap (λ (s : ℕ). Octets (octets_of (drop 16 (scrambled s bits)))) seed
    ∙ sym (octets-is bits (length-take-le 7 bits (omega (arith, enough))) some)))
