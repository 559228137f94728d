use Rattle.std.proofs.Common.{◌∙◌, List, ap, length, sym}
use Rattle.ht_metric.proofs.RowLemmas.{length-rows_of}
use Rattle.ht_metric.specs.Jobs.{JobView}
use Rattle.ht_metric.specs.Rows.{Row}
use Rattle.ht_capture.specs.Presents.{present_of}
use Rattle.ht_capture.proofs.Hearing.{silent_present}
use Rattle.ht_capture.proofs.jobs.template.Goals as goal

pub new-requires-2 : goal.new-requires-2
new-requires-2 c =
    c.grid_of-grid.ensures.streams
    ∙ (sym c.requires.triangle
    ∙ sym (ap (λ (rows : List Row). length rows) c.new.ensures ∙ length-rows_of c.args.present.now.triangle c.silence.result))

pub returns-clause-present : goal.returns-clause-present
returns-clause-present c =
    ap (λ (job : JobView). present_of job) c.new-2.ensures
    ∙ silent_present c.args.present.now.carrier c.new.result c.args.present.now.triangle c.silence.result c.new.ensures
