use Rattle.std.proofs.Common.{◌+◌, ap, ◌∙◌}
use Rattle.std.proofs.lemmas.List.{length_push}
use Rattle.ht_pam.specs.declared.point.Point.{Point}
use Rattle.std.proofs.Common.{List, length}
use Rattle.ht_cert.proofs.Starting.{point_more, point_place}
use Rattle.ht_cert.proofs.decoding.points.Goals as goal

pub loop-stream-preserved : goal.loop-stream-preserved
loop-stream-preserved c = record {
  read = point_more c.loop-stream.points c.push.new.self _ c.point.result c.args.streams c.loop-stream.stream c.args.at c.args.octets.now
      c.loop-stream-test.true c.push.ensures (point_place c.point.result c.args.octets.now c.args.at c.loop-stream.stream c.from.result c.from.ensures
      c.point.ensures)
      c.loop-stream.invariant.read;
  size = ap (λ (p : List Point). length p) c.push.ensures ∙ (length_push c.loop-stream.points c.point.result ∙ ap (λ n. n + 1) c.loop-stream.invariant.size);
}
