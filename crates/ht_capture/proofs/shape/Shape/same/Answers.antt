use Rattle.ht_capture.proofs.Shapes.{same_step}
use Rattle.ht_capture.proofs.shape.Shape.same.Goals as goal

pub loop-at-preserved : goal.loop-at-preserved
loop-at-preserved c =
    rw (← c.self.view_is, ← c.other.view_is)
    (same_step c.self.inside.templates.items c.other.inside.templates.items c.args.from c.args.other_from c.loop-at.at c.args.count
    c.index-one.result.now c.index-another.result.now c.loop-at.same c.is_like-same.result c.loop-at-test.true
    (rw (← c.self.view_is) at c.requires.within) (rw (← c.other.view_is) at c.requires.other_within)
    c.index-one.ensures c.index-another.ensures (rw (← c.self.view_is, ← c.other.view_is) at c.loop-at.invariant) c.is_like-same.ensures)
