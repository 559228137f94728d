use Rattle.std.proofs.Common.{rules, arith}
use Rattle.ht_certify.proofs.Left.{frames_left}
use Rattle.ht_certify.proofs.Passing.{one_breaks, one_more}
use Rattle.ht_certify.proofs.putting.put_frames.Goals as goal

pub returns-in_err-put_frame : goal.returns-in_err-put_frame
returns-in_err-put_frame g c =
    let left = frames_left c.args.frames.now c.loop-frame.frame-index c.frame-item.result (omega (arith, c.loop-frame-test.true)) c.frame-item.is in
    let breaks = one_breaks c.args.block.now c.loop-frame.block _ _ _ _ (g.K.Sink.shown c.args.sink.now) (g.K.Sink.shown c.loop-frame.sink)
    (g.K.Sink.shown c.put_frame.new.sink) c.in_err-put_frame.field-0.0 c.loop-frame.invariant.passes left c.in_err-put_frame.ensures in
    search rules

pub loop-frame-preserved : goal.loop-frame-preserved
loop-frame-preserved g c =
    let left = frames_left c.args.frames.now c.loop-frame.frame-index c.frame-item.result (omega (arith, c.loop-frame-test.true)) c.frame-item.is in
    record {
      passes = one_more c.args.block.now c.loop-frame.block c.put_frame.new.block _ _ _ _ (g.K.Sink.shown c.args.sink.now)
          (g.K.Sink.shown c.loop-frame.sink) (g.K.Sink.shown c.put_frame.new.sink) c.loop-frame.invariant.passes left c.in_ok-put_frame.ensures;
    }
