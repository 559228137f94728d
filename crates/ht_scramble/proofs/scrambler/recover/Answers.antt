use Rattle.std.proofs.Common.{◌≡◌, ap, ◌∙◌, sym, arith}
use mathlib.Core.Bool.{xor}
use Rattle.ht_scramble.specs.Sequence.{IsSeed, first_seven, seed_of}
use Rattle.ht_scramble.proofs.Recovered.{first_seven-seed_of, seed_of-first_seven, at_some, some_is}
use Rattle.ht_scramble.proofs.scrambler.recover.Goals as goal

pub returns-clause-value : goal.returns-clause-value
unfolding xor
returns-clause-value c =
    let is : c.octet_of.result ≡ seed_of c.args.first.now = c.octet_of.ensures in
    at_some c.new.result c.octet_of.result (λ seed. seed ≡ seed_of c.args.first.now) c.new.ensures.value is

pub returns-clause-begins : goal.returns-clause-begins
unfolding xor
returns-clause-begins c =
    let is : c.octet_of.result ≡ seed_of c.args.first.now = c.octet_of.ensures in
    at_some c.new.result c.octet_of.result (λ seed. first_seven seed ≡ c.args.first.now) c.new.ensures.value
    (ap first_seven is ∙ first_seven-seed_of c.args.first.now c.told-first)

pub returns-clause-only : goal.returns-clause-only
unfolding xor
returns-clause-only c = λ other valid begins.
    let is : c.octet_of.result ≡ other = c.octet_of.ensures ∙ ap seed_of (sym begins) ∙ seed_of-first_seven other valid in
    let range : IsSeed c.octet_of.result = (omega (arith, is, valid.0), omega (arith, is, valid.1)) in
    some_is c.new.result c.octet_of.result other (c.new.ensures.valid.1 range) c.new.ensures.value is
