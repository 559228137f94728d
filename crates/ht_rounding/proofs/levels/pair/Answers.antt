use Rattle.std.proofs.Common.{ℕ, arith, slice_index, ap, ◌∙◌}
use Rattle.std.proofs.lemmas.Simd.{get_or-replicate}
use Rattle.ht_rounding.specs.Words.{lesser, over}
use Rattle.ht_rounding.specs.Proposals.{farthest}
use Rattle.ht_rounding.proofs.LaneFacts.{fits-lane}
use Rattle.ht_rounding.proofs.Rooms.{pair-is}
use Rattle.ht_rounding.proofs.levels.pair.Goals as goal

pub returns : goal.returns
returns c k lt =
    let g = slice_index c.at_two.result.gap k in
    pair-is (slice_index c.args.target k) (slice_index c.args.d k) (slice_index c.args.cut k) _ g _ _
    (fits-lane c.args.target k (omega (arith, c.fits-target.0)) c.fits-target.1)
    (c.requires k lt)
    (c.at_two.ensures.proposed k lt farthest (omega arith)) (c.at_two.ensures.sign k lt)
    (c.lesser.ensures.lane k lt ∙ ap (λ (n : ℕ). lesser g n) (get_or-replicate {A = ℕ} 8 k 32767 0 lt))
    (c.lesser-3.ensures.lane k lt ∙ ap (λ (n : ℕ). lesser n (slice_index c.lesser-2.result k))
    (c.over.ensures.lane k lt ∙ ap (λ (n : ℕ). over n g) (get_or-replicate {A = ℕ} 8 k 32768 0 lt))
    ∙ ap (λ (n : ℕ). lesser (over 32768 g) n) (c.lesser-2.ensures.lane k lt ∙ ap (λ (n : ℕ). lesser n (slice_index c.args.cut k)) (c.size.ensures.lane k lt)))
