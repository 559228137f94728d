use Rattle.std.proofs.Common.{sym, ap, length, ◌∙◌}
use Rattle.ht_metric.specs.Arrays.{length-legs_of}
use Rattle.ht_metric.proofs.triangle.Triangle.streams.Goals as goal

pub returns-clause-number : goal.returns-clause-number
returns-clause-number c = let t = c.self.inside in sym (length-legs_of t.streams t.diagonal t.above) ∙ ap length c.self.view_is
