use Rattle.std.proofs.Common.{arith}
use Rattle.ht_tx.proofs.Sequences.{sent_all, sent_more, sent_none}
use Rattle.ht_tx.proofs.sending.transmit_all.Goals as goal

pub loop-frame-init : goal.loop-frame-init
loop-frame-init c = sent_none c.args.frames.now c.in_ok-sent.sent.items c.in_ok-sent.ensures.items

pub loop-frame-preserved : goal.loop-frame-preserved
loop-frame-preserved c =
    sent_more c.args.frames.now c.loop-frame.frame-index c.loop-frame.sent.items c.push.new.self.items c.frame-item.result c.in_ok-transmit.field-0
    c.loop-frame-test.true c.frame-item.is c.in_ok-push.ensures.items c.loop-frame.invariant
    c.in_ok-transmit.ensures.sent c.in_ok-transmit.ensures.whole

pub returns : goal.returns
returns c = sent_all c.args.frames.now c.loop-frame.frame-index c.loop-frame.sent.items (omega arith) c.loop-frame.invariant
