use Rattle.ht_bits.proofs.Octets.{octets-step}
use Rattle.ht_bits.proofs.convert.bits_to_octets.Goals as goal

pub loop-m-preserved : goal.loop-m-preserved
loop-m-preserved c =
    octets-step c.args.bits.now c.loop-m.m c.octet_of.result c.loop-m.octets.items c.push.new.self.items
    _ c.loop-m-test.true c.octet_of.ensures c.in_ok-push.ensures.items c.loop-m.invariant
