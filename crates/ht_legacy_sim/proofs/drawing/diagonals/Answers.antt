use Rattle.std.proofs.Common.{ℕ, List, length, ap, arith}
use Rattle.ht_clause18.specs.Carriers.{carriers}
use Rattle.ht_sim.specs.Draws.{joined, several}
use Rattle.ht_sim.proofs.Drawing.{several-end, several-step}
use Rattle.ht_legacy_sim.specs.Drawing.{diagonal_drawn}
use Rattle.ht_legacy_sim.proofs.drawing.diagonals.Goals as goal

pub loop-carrier-init : goal.loop-carrier-init
loop-carrier-init c = record {
  drawn = ap (λ (xs : List ℕ). joined xs (several diagonal_drawn carriers c.args.words.now)) c.new-diagonals.ensures;
  count = ap (λ (xs : List ℕ). length xs) c.new-diagonals.ensures;
}

pub loop-carrier-preserved : goal.loop-carrier-preserved
loop-carrier-preserved c = record {
  drawn = several-step diagonal_drawn c.loop-carrier.diagonals.items c.push.new.self.items c.diagonal.result _ _
      c.loop-carrier.words c.diagonal.new.self _
      (omega arith) c.loop-carrier.invariant.drawn c.push.ensures.items c.diagonal.ensures.value c.diagonal.ensures.behind;
  count = omega (arith, c.push.ensures.len, c.loop-carrier.invariant.count);
}

pub returns-clause-value : goal.returns-clause-value
returns-clause-value c =
    several-end diagonal_drawn c.loop-carrier.diagonals.items _ c.loop-carrier.words _ (omega arith) c.loop-carrier.invariant.drawn
