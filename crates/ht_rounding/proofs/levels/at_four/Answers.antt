use Rattle.std.proofs.Common.{◌+◌, ◌*◌, arith, slice_index}
use Rattle.ht_rounding.proofs.LaneFacts.{fits-lane}
use Rattle.ht_rounding.proofs.Folding.{unfolds}
use Rattle.ht_rounding.proofs.levels.at_four.Goals as goal

pub returns : goal.returns
returns c k lt bound le =
    unfolds 2 bound (slice_index c.args.target k) (slice_index c.args.d k) _ _ _ _ (omega arith) (omega arith)
    (fits-lane c.args.target k (omega (arith, c.fits-target.0)) c.fits-target.1) (c.requires k lt) (c.folded.ensures k lt) (c.unfolded.ensures k lt)
    (c.at_two-inner.ensures.proposed k lt (bound + slice_index c.args.d k * 2) (omega (arith, c.requires k lt, le)))
