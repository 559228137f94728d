use Rattle.std.proofs.Common.{rules, arith, ap, w64, SFits, to_z-of_z}
use Rattle.std.specs.Int.Bits.{bit_and}
use Rattle.std.proofs.lemmas.Nat.{and_le_l}
use Rattle.ht_pam.proofs.EndLemmas.{starts_passed, starts_level}
use Rattle.ht_pam.proofs.zigzag.start.Goals as goal

pub returns-then-d-eq0-clause-zigzag : goal.returns-then-d-eq0-clause-zigzag
returns-then-d-eq0-clause-zigzag c =
    (starts_level c.args.target c.args.d c.args.size c.args.mask c.requires.size c.requires.within (omega (arith, c.if-d-eq0.true))).0

pub returns-then-d-eq0-clause-all : goal.returns-then-d-eq0-clause-all
returns-then-d-eq0-clause-all c =
    (starts_level c.args.target c.args.d c.args.size c.args.mask c.requires.size c.requires.within (omega (arith, c.if-d-eq0.true))).1

pub returns : goal.returns
returns c =
    let wide : SFits w64 c.args.target = search rules in
    let walk =
    starts_passed c.args.target _ c.args.d c.args.size c.args.mask c.nearest_by_jumps.result (bit_and c.args.mask c.up_to.result) (to_z-of_z wide)
    c.requires.size c.requires.some c.requires.within (omega (arith, c.if-d-eq0.false)) c.nearest_by_jumps.ensures.within
    c.nearest_by_jumps.ensures.below c.nearest_by_jumps.ensures.above (ap (bit_and c.args.mask) c.up_to.ensures) in
    record { within = and_le_l c.args.mask c.up_to.result; zigzag = walk.0; all = walk.1 }
