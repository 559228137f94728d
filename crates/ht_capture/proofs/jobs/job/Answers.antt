use Rattle.std.proofs.Common.{◌∙◌, sym, ap, List, length}
use Rattle.ht_metric.proofs.RowLemmas.{length-rows_of}
use Rattle.ht_metric.specs.Rows.{Row}
use Rattle.ht_capture.proofs.Grids.{job_made}
use Rattle.ht_capture.proofs.jobs.job.Goals as goal

pub new-requires-2 : goal.new-requires-2
new-requires-2 c =
    c.grid_of-grid.ensures.streams
    ∙ (sym c.requires.triangle ∙ sym
    (ap (λ (rows : List Row). length rows) c.new.ensures ∙ length-rows_of c.args.present.now.triangle c.samples-samples.result))

pub returns-clause-value : goal.returns-clause-value
returns-clause-value c =
    c.new-2.ensures ∙ job_made c.args.head.now c.args.symbol c.args.number c.streams.result c.args.present.now
    c.args.octets.now c.args.at c.grid_of-grid.result c.new.result c.samples-samples.result
    c.grid_of-grid.ensures.value c.new.ensures c.streams.ensures.value c.samples-samples.ensures c.requires.triangle
