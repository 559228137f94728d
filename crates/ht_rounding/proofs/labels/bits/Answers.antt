use Rattle.std.proofs.Common.{arith, slice_index}
use Rattle.ht_rounding.proofs.LaneFacts.{fits-lane}
use Rattle.ht_rounding.proofs.Labelling.{named}
use Rattle.ht_rounding.proofs.labels.bits.Goals as goal

pub returns : goal.returns
returns c k lt =
    named c.args.levels (slice_index c.args.level k) c.count.result _ _ _ _ (fits-lane c.args.level k (omega (arith, c.fits-level.0)) c.fits-level.1)
    c.count.ensures (c.raised.ensures.lane k lt) (c.halves-place.ensures.lane k lt) (c.halves.ensures.lane k lt) (c.differing.ensures.lane k lt)
