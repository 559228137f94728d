use Rattle.ht_capture.proofs.Shapes.{triangles_more}
use Rattle.ht_capture.proofs.reading.triangles.Goals as goal

pub loop-seen-preserved : goal.loop-seen-preserved
loop-seen-preserved c =
    triangles_more c.args.present.now c.loop-seen.seen-index c.seen-item.result c.loop-seen.triangles.items c.push.new.self.items
    c.loop-seen-test.true c.seen-item.is c.loop-seen.invariant c.in-Ok.ensures.items
