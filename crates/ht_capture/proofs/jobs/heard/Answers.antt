use Rattle.std.proofs.Common.{◌≡◌, ◌∙◌, ap, length, List, sym}
use Rattle.ht_metric.specs.declared.place.Place.{Place}
use Rattle.ht_metric.specs.Arrays.{legs}
use Rattle.ht_metric.proofs.RowLemmas.{length-legs, length-rows_of}
use Rattle.ht_metric.specs.Jobs.{JobView}
use Rattle.ht_metric.specs.Rows.{Leg, Row, rows_of}
use Rattle.ht_capture.specs.Presents.{present_of}
use Rattle.ht_capture.proofs.Grids.{job_made}
use Rattle.ht_capture.proofs.jobs.heard.Goals as goal

pub new-requires-2 : goal.new-requires-2
new-requires-2 c =
    let rows = c.args.template.now.job.system in
    let ys = c.samples-samples.result in
    let is : c.new.result ≡ rows_of (legs rows) ys =
    c.new.ensures ∙ ap (λ (t : List Leg). rows_of t ys) (c.triangle-triangle.ensures ∙ ap (λ (r : List Row). legs r) c.system.ensures.system) in
    c.grid_on-grid.ensures.streams
    ∙ sym (ap (λ (r : List Row). length r) is ∙ (length-rows_of (legs rows) ys ∙ (length-legs rows ∙ c.requires.template.streams)))

pub returns : goal.returns
returns c =
    let a = c.args in
    let job = a.template.now.job in
    let rows = job.system in
    let ys = c.samples-samples.result in
    let is : c.new.result ≡ rows_of (legs rows) ys =
    c.new.ensures ∙ ap (λ (t : List Leg). rows_of t ys) (c.triangle-triangle.ensures ∙ ap (λ (r : List Row). legs r) c.system.ensures.system) in
    let on : Place → JobView = λ place. record {
      number = a.number;
      place = record { frame = a.head.now.frame; symbol = a.symbol; carrier = place.carrier };
      grid = c.grid_on-grid.result;
      system = c.new.result;
    } in
    c.new-2.ensures ∙ (ap on c.place.ensures
    ∙ job_made a.head.now a.symbol a.number c.streams.result (present_of job) a.octets.now a.at c.grid_on-grid.result c.new.result ys
    c.grid_on-grid.ensures.value is c.streams.ensures.value c.samples-samples.ensures (length-legs rows ∙ c.requires.template.streams))
