use Rattle.ht_capture.proofs.Written.{sample_added}
use Rattle.ht_capture.proofs.writing.fill.Goals as goal

pub loop-sample-preserved : goal.loop-sample-preserved
loop-sample-preserved c =
    let was = c.loop-sample in
    let now = sample_added was.chunk c.add_sample.new.chunk c.args.samples.now was.sample-index _ c.loop-sample-test.true was.invariant.put
    was.invariant.size c.add_sample.ensures in
    record { put = now.0; size = now.1 }
