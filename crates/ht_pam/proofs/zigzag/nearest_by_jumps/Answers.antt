use Rattle.std.proofs.Common.{rules, ℕ, pos, ◌-ℤ◌, ◌*ℤ◌, arith, subst, w64, to_z, of_z}
use Rattle.std.specs.Int.Signed.{◌≤ℤ◌}
use Rattle.ht_pam.specs.Ladders.{level}
use Rattle.ht_pam.proofs.EndLemmas.{halves, two_halves}
use Rattle.ht_pam.proofs.zigzag.nearest_by_jumps.Goals as goal

pub loop-width-preserved-then-middle-target : goal.loop-width-preserved-then-middle-target
loop-width-preserved-then-middle-target c =
    let w = c.loop-width.width in
    let at = c.loop-width.at in
    let half = halves w c.loop-width.invariant.width (omega arith) in
    record {
      width = half.0;
      within = omega (arith, half.1, c.loop-width.invariant.within);
      below = λ some. search (rules, c.middle.ensures, c.if-middle-target.true);
      above = λ more. subst (λ (n : ℕ). to_z w64 (of_z w64 c.args.target) ≤ℤ (pos c.args.d *ℤ (level c.args.size n -ℤ pos 1)))
          (two_halves at w half.1) (c.loop-width.invariant.above (omega (arith, half.1)));
    }

pub loop-width-preserved : goal.loop-width-preserved
loop-width-preserved c =
    let half = halves c.loop-width.width c.loop-width.invariant.width (omega arith) in
    record {
      width = half.0;
      within = omega (arith, half.1, c.loop-width.invariant.within);
      below = c.loop-width.invariant.below;
      above = λ more. search (rules, c.middle.ensures, c.if-middle-target.false);
    }
