use Rattle.std.proofs.Common.{arith, slice_index}
use Rattle.ht_rounding.proofs.LaneFacts.{fits-lane}
use Rattle.ht_rounding.proofs.Hearing.{holds-product}
use Rattle.ht_rounding.proofs.rows.multiplied.Goals as goal

pub returns-clause-below : goal.returns-clause-below
returns-clause-below c k lt = omega (arith, c.product.ensures.lane k lt)

pub returns-clause-product : goal.returns-clause-product
returns-clause-product c k lt = holds-product (slice_index c.args.part k) (slice_index c.args.level k) _
    (fits-lane c.args.part k (omega (arith, c.fits-part.0)) c.fits-part.1) (fits-lane c.args.level k (omega (arith, c.fits-level.0)) c.fits-level.1)
    (c.product.ensures.lane k lt)
