use Rattle.std.proofs.Common.{arith, w64, to_z, of_z}
use Rattle.std.proofs.lemmas.Grind.{common_steps}
use Rattle.ht_pam.proofs.EndLemmas.{halves, half_step}
use Rattle.ht_pam.proofs.zigzag.nearest.Goals as goal

pub loop-width-preserved : goal.loop-width-preserved
loop-width-preserved c =
    let i = c.loop-width.invariant in
    let e = c.halved-at.ensures in
    let s = half_step (to_z w64 (of_z w64 c.args.target)) c.args.d c.args.size c.loop-width.at c.loop-width.width c.halved-at.result
    i.width c.loop-width-test.true i.within i.below i.above e.either e.below e.above in
    record { width = (halves c.loop-width.width i.width c.loop-width-test.true).0; within = s.0; below = s.1; above = s.2 }

pub returns : goal.returns
returns c = record { within = grind (arith, common_steps); below = grind (arith, common_steps); above = grind (arith, common_steps) }
