use Rattle.std.proofs.Common.{ℕ, ◌+◌, ◌*◌, ◌%◌, ◌^◌, arith, slice_index, ap, ◌∙◌}
use Rattle.ht_rounding.specs.Words.{turned}
use Rattle.ht_rounding.proofs.LaneFacts.{fits-lane}
use Rattle.ht_rounding.proofs.Folding.{unfolds}
use Rattle.ht_rounding.proofs.levels.at_two.Goals as goal

pub returns-clause-sign : goal.returns-clause-sign
returns-clause-sign c k lt = c.unfolded.ensures k lt
    ∙ ap (λ (n : ℕ). turned (slice_index c.args.target k) ((1 + n) % 2 ^ 32)) (c.at_one-inner.ensures.zero k lt)

pub returns-clause-proposed : goal.returns-clause-proposed
returns-clause-proposed c k lt bound le =
    unfolds 1 bound (slice_index c.args.target k) (slice_index c.args.d k) _ _ _ _ (omega arith) (omega arith)
    (fits-lane c.args.target k (omega (arith, c.fits-target.0)) c.fits-target.1) (c.requires k lt) (c.folded.ensures k lt) (c.unfolded.ensures k lt)
    (c.at_one-inner.ensures.proposed k lt (bound + slice_index c.args.d k * 1) (omega (arith, c.requires k lt, le)))
