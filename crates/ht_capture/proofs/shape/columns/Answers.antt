use Rattle.std.proofs.Common.{ap, get_or}
use Rattle.ht_capture.specs.declared.template.Template.{Template}
use Rattle.ht_capture.proofs.InLanes.{columns-more}
use Rattle.ht_capture.proofs.shape.columns.Goals as goal

pub loop-at-preserved : goal.loop-at-preserved
loop-at-preserved c =
    let templates = c.args.templates.now in
    let at = c.loop-at.at in
    columns-more c.args.head.now templates at (get_or templates at c.index-templates-at.result) c.loop-at.columns c.push.new.self
    c.loop-at-test.true (ap (λ (t : Template). get_or templates at t) c.index-templates-at.is) c.loop-at.invariant
    c.in_ok-push.ensures.modulation c.in_ok-push.ensures.streams c.in_ok-push.ensures.more
