use Rattle.std.proofs.Common.{◌≡◌, List, [], Bool, length, flat_map, sym, ap, ◌∙◌, rules, arith}
use Rattle.ht_metric.proofs.RowLemmas.{length-rows_of}
use Rattle.ht_metric.specs.Jobs.{IsJob, JobView, near}
use Rattle.ht_sphere.specs.Coordinates.{from_last}
use Rattle.ht_witness.specs.Marking.{marks_of}
use Rattle.ht_cert.specs.declared.record.Record.{Record}
use Rattle.ht_cert.specs.Files.{record_octets}
use Rattle.ht_certify.specs.Certifying.{certificate_of, record_of}
use Rattle.ht_certify.specs.Making.{job_on, records_on}
use Rattle.ht_certify.proofs.Fewness.{marks_few}
use Rattle.ht_certify.proofs.Left.{on_data}
use Rattle.ht_certify.proofs.Passing.{breaks_as}
use Rattle.ht_certify.proofs.putting.put_subcarrier.Goals as goal

pub put_record-requires : goal.put_record-requires
put_record-requires g c =
    let job = job_on c.args.grid.now c.args.subcarrier.now.triangle c.args.samples.now in
    let is : IsJob job = record {
      grid = c.requires.good;
      streams = c.requires.grid ∙ sym (length-rows_of c.args.subcarrier.now.triangle c.args.samples.now);
    } in
    let made : JobView → Record = λ j. record { modulation = c.args.recorded.now.modulation; job = j; certificate = certificate_of j } in
    let marks : c.make.new.recorded.certificate.marks ≡ marks_of (near job).distance (from_last job.system job.grid) [] 0 =
    ap (λ (r : Record). r.certificate.marks) (c.in_ok-make.ensures.made ∙ ap made c.job.ensures) in
    omega (arith, ap (λ (m : List Bool). length m) marks, marks_few (near job).distance job is)

pub returns-in_err-put_record-clause-writes : goal.returns-in_err-put_record-clause-writes
returns-in_err-put_record-clause-writes g c =
    let m = c.args.recorded.now.modulation in
    let made : JobView → Record = λ j. record { modulation = m; job = j; certificate = certificate_of j } in
    let same : c.make.new.recorded ≡ record_of 0 m (job_on c.args.grid.now c.args.subcarrier.now.triangle c.args.samples.now) =
    c.in_ok-make.ensures.made ∙ ap made c.job.ensures in
    let breaks = breaks_as c.args.block.now (record_octets c.make.new.recorded)
    (flat_map record_octets (records_on m c.args.grid.now c.args.subcarrier.now c.args.samples.now))
    (g.K.Sink.shown c.args.sink.now) (g.K.Sink.shown c.put_record.new.sink) c.in_err-put_record.field-0.0
    (on_data m c.args.grid.now c.args.subcarrier.now c.args.samples.now c.make.new.recorded c.if-subcarrier.true same) c.in_err-put_record.ensures in
    search rules
