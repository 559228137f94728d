use Rattle.std.proofs.Common.{◌+◌, ◌*◌, ◌≤◌, length, arith}
use Rattle.ht_capture.proofs.Encoded.{sample_step}
use Rattle.ht_capture.proofs.reading.add_samples.Goals as goal

pub loop-index-preserved : goal.loop-index-preserved
loop-index-preserved c =
    let so_far = c.loop-index.invariant in
    let enough : 8 * (c.loop-index.index + 1) ≤ length c.args.octets.now = omega (arith, c.loop-index-test.true) in
    sample_step c.loop-index.samples.items c.push.new.self.items c.args.samples.now.items c.args.octets.now c.loop-index.index c.sample.result
    so_far.0 so_far.1 c.in-Ok.ensures.items c.sample.ensures so_far.2 so_far.3 enough (λ i. omega (arith, c.type_inv.octets i))
