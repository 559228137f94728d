use Rattle.std.proofs.Common.{◌-◌, arith, ap, sym}
use Rattle.ht_metric.specs.Rows.{Row}
use Rattle.ht_metric.proofs.RowLemmas.{shown-streams, shown-row}
use Rattle.ht_metric.proofs.system.System.sample.Goals as goal

pub bounds-self-inside-from : goal.bounds-self-inside-from
bounds-self-inside-from c = omega (arith, c.requires.last, c.self.invariant.few, shown-streams c.self.inside.triangle c.self.inside.y _ c.self.view_is)

pub returns : goal.returns
returns c =
    rw c.from.ensures (sym (ap (λ (row : Row). row.sample)
    (shown-row c.self.inside.triangle c.self.inside.y c.args.self.now (c.args.k - 1) c.self.view_is (omega arith))))
