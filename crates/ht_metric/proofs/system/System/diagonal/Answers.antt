use Rattle.std.proofs.Common.{◌∙◌, ◌-◌, arith, ap, sym}
use Rattle.ht_metric.specs.Rows.{Row}
use Rattle.ht_metric.proofs.RowLemmas.{shown-streams, shown-row}
use Rattle.ht_metric.proofs.system.System.diagonal.Goals as goal

pub diagonal-requires-clause-last : goal.diagonal-requires-clause-last
diagonal-requires-clause-last c = omega (arith, c.requires.last, shown-streams c.self.inside.triangle c.self.inside.y _ c.self.view_is)

pub returns : goal.returns
returns c =
    c.diagonal.ensures ∙ sym (ap (λ (row : Row). row.diagonal)
    (shown-row c.self.inside.triangle c.self.inside.y c.args.self.now (c.args.k - 1) c.self.view_is (omega arith)))
