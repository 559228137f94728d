use Rattle.std.proofs.Common.{ap, arith}
use Rattle.ht_tx.specs.Frames.{FrameView}
use Rattle.ht_sim.specs.Draws.{Drawn}
use Rattle.ht_sim.specs.Samples.{sample_frame_drawn}
use Rattle.ht_sim.proofs.Drawing.{several-step}
use Rattle.ht_sim.proofs.samples.sample_frames.Goals as goal

pub loop-index-preserved : goal.loop-index-preserved
loop-index-preserved c =
    several-step (sample_frame_drawn c.args.rate.now c.args.length) c.loop-index.frames.items c.push.new.self.items c.in_ok-sample_frame.field-0 _ _
    c.loop-index.words c.sample_frame.new.words _
    (omega arith) c.loop-index.invariant c.in_ok-push.ensures.items
    (ap (λ (d : Drawn FrameView). d.value) c.in_ok-sample_frame.ensures) (ap (λ (d : Drawn FrameView). d.state) c.in_ok-sample_frame.ensures)
