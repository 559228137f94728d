use Rattle.std.proofs.Common.{slice_index}
use Rattle.ht_rounding.proofs.Hearing.{left}
use Rattle.ht_rounding.proofs.rows.without.Goals as goal

pub returns : goal.returns
returns c k lt z r =
    left (slice_index c.args.target.re k) (slice_index c.args.target.im k) (slice_index c.args.entry.re k) (slice_index c.args.entry.im k)
    (slice_index c.args.behind.i k) (slice_index c.args.behind.q k) _ _ _ _ _ _ _ _ z r
    (c.multiplied.ensures.product k lt) (c.multiplied-2.ensures.product k lt) (c.multiplied-3.ensures.product k lt) (c.multiplied-4.ensures.product k lt)
    (c.multiplied-2.ensures.below k lt) (c.minus.ensures.lane k lt) (c.plus.ensures.lane k lt) (c.minus-2.ensures.lane k lt) (c.minus-3.ensures.lane k lt)
