use Rattle.std.proofs.Common.{ap, sym, ◌∙◌, List, ℤ}
use Rattle.ht_sphere.proofs.Bests.{best-taken, best-left}
use Rattle.ht_sphere.proofs.search.settle.Goals as goal

pub returns-then-is_better-clause-best : goal.returns-then-is_better-clause-best
returns-then-is_better-clause-best c =
    best-taken _ _ _ (sym c.is_better.ensures ∙ c.if-is_better.true) (ap (λ (l : List ℤ). (l, c.args.partial)) c.copy_from_slice.ensures.after)

pub returns-else-is_better-clause-best : goal.returns-else-is_better-clause-best
returns-else-is_better-clause-best c = best-left _ _ (sym c.is_better.ensures ∙ c.if-is_better.false)
