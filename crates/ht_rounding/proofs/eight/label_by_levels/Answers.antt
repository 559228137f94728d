use Rattle.std.proofs.Common.{◌≡◌, ℕ, arith, subst}
use Rattle.ht_rounding.specs.Labels.{HasJob}
use Rattle.ht_rounding.proofs.eight.label_by_levels.Goals as goal

pub returns-then-streams-eq1-clause-labels : goal.returns-then-streams-eq1-clause-labels
returns-then-streams-eq1-clause-labels c k job lt some has = c.label_one.ensures.labels k job lt some
    (subst (λ (n : ℕ). HasJob c.args.i c.args.q c.args.eight.now n k job) c.if-streams-eq1.true has)

pub returns-then-streams-eq2-clause-labels : goal.returns-then-streams-eq2-clause-labels
returns-then-streams-eq2-clause-labels c k job lt some has = c.label_two.ensures.labels k job lt some
    (subst (λ (n : ℕ). HasJob c.args.i c.args.q c.args.eight.now n k job) c.if-streams-eq2.true has)

pub returns-then-streams-eq3-clause-labels : goal.returns-then-streams-eq3-clause-labels
returns-then-streams-eq3-clause-labels c k job lt some has = c.label_three.ensures.labels k job lt some
    (subst (λ (n : ℕ). HasJob c.args.i c.args.q c.args.eight.now n k job) c.if-streams-eq3.true has)

pub returns-clause-labels : goal.returns-clause-labels
returns-clause-labels c k job lt some has =
    let four : c.args.streams ≡ 4 = omega (arith, c.requires.some, c.requires.few, c.if-streams-eq1.false, c.if-streams-eq2.false, c.if-streams-eq3.false) in
    c.label_four.ensures.labels k job lt some (subst (λ (n : ℕ). HasJob c.args.i c.args.q c.args.eight.now n k job) four has)
