use Rattle.std.proofs.Common.{sym, ap, length, ◌∙◌}
use Rattle.ht_metric.proofs.RowLemmas.{length-rows_of}
use Rattle.ht_metric.proofs.system.System.streams.Goals as goal

pub returns-clause-number : goal.returns-clause-number
returns-clause-number c = let s = c.self.inside in c.streams.ensures.number ∙ sym (length-rows_of s.triangle s.y) ∙ ap length c.self.view_is
