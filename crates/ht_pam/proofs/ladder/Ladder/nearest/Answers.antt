use Rattle.std.proofs.Common.{rules, ◌∙◌, ap, arith, length, sym, w8, w64, SFits, to_z, of_z, to_z-of_z}
use Rattle.ht_pam.specs.Zigzags.{gap}
use Rattle.ht_pam.specs.Ladders.{levels}
use Rattle.ht_pam.proofs.Tables.{levels_some}
use Rattle.ht_pam.proofs.ZigzagLemmas.{length-nearest_first}
use Rattle.ht_pam.proofs.EndLemmas.{nearest_of}
use Rattle.ht_pam.proofs.ladder.Ladder.nearest.Goals as goal

pub returns-then-allows-clause-value : goal.returns-then-allows-clause-value
returns-then-allows-clause-value c =
    let small : SFits w8 c.level_at.result = search rules in
    let wide : SFits w64 c.args.target = search rules in
    to_z-of_z small ∙ c.level_at.ensures.value
    ∙ nearest_of c.args.self c.args.target
    (to_z w64 (of_z w64 c.args.target)) c.args.d c.parts-size.result.0 c.parts-size.result.1 c.nearest-at.result c.parts-size.ensures.ladder
    c.parts-size.ensures.size c.parts-size.ensures.mask (to_z-of_z wide)
    (omega (arith, c.if-d-gt0.true)) c.nearest-at.ensures.within c.nearest-at.ensures.below c.nearest-at.ensures.above
    (sym c.allows.ensures ∙ c.if-allows.true)

pub first-requires : goal.first-requires
first-requires c =
    omega (
      arith,
      ap length c.new.ensures,
      length-nearest_first (gap (to_z w64 (of_z w64 c.args.target)) c.args.d) (levels c.args.self),
      levels_some c.args.self c.parts-size.ensures.ladder,
    )
