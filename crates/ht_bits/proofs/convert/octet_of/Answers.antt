use Rattle.ht_bits.proofs.Octets.{octet-step}
use Rattle.std.proofs.Common.{arith}
use Rattle.ht_bits.proofs.convert.octet_of.Goals as goal

pub overflow_add-octet : goal.overflow_add-octet
overflow_add-octet c =
    omega (
      arith,
      (octet-step c.args.bits.now c.loop-place.place c.loop-place.octet
          c.from.result c.requires c.loop-place-test.true c.loop-place.invariant c.from.ensures).0,
    )

pub loop-place-preserved : goal.loop-place-preserved
loop-place-preserved c =
    (octet-step c.args.bits.now c.loop-place.place c.loop-place.octet c.from.result c.requires c.loop-place-test.true c.loop-place.invariant c.from.ensures).1
