use Rattle.std.proofs.Common.{◌≡◌, List, length, take, sym, ap, ◌∙◌, arith}
use Rattle.ht_metric.proofs.RowLemmas.{length-rows_of}
use Rattle.ht_metric.specs.declared.sample.Sample.{Sample}
use Rattle.ht_metric.specs.Jobs.{JobView}
use Rattle.ht_metric.specs.Rows.{Row, rows_of}
use Rattle.ht_cert.specs.Records.{no_place}
use Rattle.ht_certify.proofs.Left.{rows_front}
use Rattle.ht_certify.proofs.making.job.Goals as goal

pub received-requires : goal.received-requires
received-requires c = omega (arith, c.requires.rows, c.requires.grid, c.requires.good.few)

pub new-requires : goal.new-requires
new-requires c =
    c.requires.grid ∙ sym (ap (λ (rows : List Row). length rows) c.new-system.ensures ∙ length-rows_of c.args.triangle.now c.received.result)

pub returns : goal.returns
returns c =
    let t = c.args.triangle.now in
    let y = c.received.result in
    let rows : rows_of t y ≡ rows_of t c.args.samples.now =
    sym (rows_front t y) ∙ (ap (λ k. rows_of t (take k y)) (sym c.requires.rows) ∙ ap (λ (ys : List Sample). rows_of t ys) c.received.ensures.front) in
    let view : List Row → JobView = λ system. record { number = 0; place = no_place; grid = c.args.grid.now; system = system } in
    c.new.ensures ∙ ap view (c.new-system.ensures ∙ rows)
