use Rattle.std.proofs.Common.{List, length, sym, ap, ◌∙◌, arith}
use Rattle.std.proofs.lemmas.List.{length-replicate}
use Rattle.ht_pam.specs.declared.axes.Axes.{Axes}
use Rattle.ht_metric.proofs.RowLemmas.{length-rows_of}
use Rattle.ht_metric.specs.Rows.{Row}
use Rattle.ht_capture.proofs.Grids.{length-triangle_of, unused_samples}
use Rattle.ht_cert.proofs.Starting.{claim_made}
use Rattle.ht_cert.proofs.decoding.fill_record.Goals as goal

pub new-requires : goal.new-requires
new-requires c = record {
  unused = unused_samples c.args.streams (length c.triangle-triangle.result) c.args.octets.now c.triangle_width-samples_at.result c.samples-samples.result
      c.samples-samples.ensures (length-triangle_of c.args.streams c.args.octets.now c.triangle-triangle.result c.triangle-triangle.ensures);
}

pub new-into-requires : goal.new-into-requires
new-into-requires c =
    ap (λ (g : List Axes). length g) c.constellation.ensures
    ∙ (length-replicate c.args.streams _
    ∙ sym (ap (λ (rows : List Row). length rows) c.new.ensures ∙ (length-rows_of c.triangle-triangle.result c.samples-samples.result
    ∙ length-triangle_of c.args.streams c.args.octets.now c.triangle-triangle.result c.triangle-triangle.ensures)))

pub returns : goal.returns
returns c =
    claim_made c.args.number c.args.modulation c.args.streams c.args.octets.now c.triangle_width-samples_at.result _ _ _
    c.triangle-triangle.result c.samples-samples.result c.constellation.result c.new.result c.new-into.result c.points-into.result c.read_u128-into.result
    c.clear.new.self
    c.triangle_width-samples_at.ensures.value (omega (arith, c.from.ensures))
    (omega (arith, c.from-2.ensures)) c.triangle-triangle.ensures c.samples-samples.ensures
    c.constellation.ensures c.new.ensures c.new-into.ensures c.points-into.ensures c.read_u128-into.ensures (omega arith) c.clear.ensures
