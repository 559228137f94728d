use Rattle.std.proofs.Common.{◌/◌, ◌<◌, arith, rules}
use Rattle.ht_landing.specs.Landings.{landing_of}
use Rattle.ht_landing.proofs.Landed.{carrier-below, landing_of-label}
use Rattle.ht_landing.proofs.landings.Landing.of.Goals as goal

pub overflow_cast-result : goal.overflow_cast-result
overflow_cast-result c =
    let small : c.place-place.result / c.from-label_bits.result < 109 = carrier-below c.args.rate.now _ _ (search rules) c.place-place.ensures.bound in
    omega arith

pub returns-clause-label : goal.returns-clause-label
unfolding landing_of
returns-clause-label c = landing_of-label c.args.rate.now c.args.encoder c.args.coded _ c.requires (search rules)
