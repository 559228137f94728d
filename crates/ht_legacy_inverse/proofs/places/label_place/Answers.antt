use Rattle.std.proofs.Common.{arith}
use Rattle.ht_legacy_inverse.proofs.Gathered.{label-below}
use Rattle.ht_clause18.specs.Rates.{coded_bits_of}
use Rattle.ht_clause18.proofs.RateFacts.{coded_bits_of-is}
use Rattle.ht_legacy_inverse.proofs.places.label_place.Goals as goal

pub overflow_cast-result : goal.overflow_cast-result
overflow_cast-result c =
    let whole = coded_bits_of-is c.args.rate in
    let bits = c.label_bits.ensures.value in
    let low = c.label_bits.ensures.low in
    let same = c.from-bits.ensures in
    let below = label-below c.legacy_place-place.result c.from-bits.result (coded_bits_of c.args.rate) (omega (arith, whole, bits, same))
    (omega (arith, low, same))
    c.legacy_place-place.ensures.bound in
    omega (arith, below)
