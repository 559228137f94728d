use Rattle.std.proofs.Common.{◌∙◌, ◌-◌, arith, ap, sym, get_or}
use Rattle.ht_metric.specs.Rows.{Row, no_tap}
use Rattle.ht_metric.proofs.RowLemmas.{shown-streams, shown-row}
use Rattle.ht_metric.proofs.system.System.above.Goals as goal

pub above-requires-clause-last : goal.above-requires-clause-last
above-requires-clause-last c = omega (arith, c.requires.last, shown-streams c.self.inside.triangle c.self.inside.y _ c.self.view_is)

pub returns : goal.returns
returns c =
    c.above.ensures ∙ sym (ap (λ (row : Row). get_or row.right (c.args.l - c.args.k - 1) no_tap)
    (shown-row c.self.inside.triangle c.self.inside.y c.args.self.now (c.args.k - 1) c.self.view_is (omega arith)))
