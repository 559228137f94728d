use Rattle.std.proofs.Common.{◌∙◌, List, ap, sym}
use Rattle.ht_metric.specs.Rows.{Row}
use Rattle.ht_metric.specs.Arrays.{legs, legs-rows_of}
use Rattle.ht_metric.proofs.system.System.triangle.Goals as goal

pub returns : goal.returns
returns c = sym (legs-rows_of c.self.inside.triangle c.self.inside.y) ∙ ap (λ (r : List Row). legs r) c.self.view_is
