use Rattle.std.proofs.Common.{ℕ, arith, slice_index, ap, ◌∙◌}
use Rattle.std.proofs.lemmas.Simd.{get_or-replicate}
use Rattle.ht_rounding.specs.Words.{lesser, over}
use Rattle.ht_rounding.specs.Proposals.{farthest}
use Rattle.ht_rounding.proofs.Rooms.{single-is}
use Rattle.ht_rounding.proofs.levels.single.Goals as goal

pub returns : goal.returns
returns c k lt =
    single-is (slice_index c.args.target k) (slice_index c.args.d k) (slice_index c.args.cut k) _ (slice_index c.at_one.result.gap k) _ _ (c.requires k lt)
    (c.at_one.ensures.proposed k lt farthest (omega arith))
    (c.lesser.ensures.lane k lt ∙ ap (λ (n : ℕ). lesser (slice_index c.at_one.result.gap k) n) (get_or-replicate {A = ℕ} 8 k 32767 0 lt))
    (c.lesser-2.ensures.lane k lt ∙ ap (λ (n : ℕ). lesser n (slice_index c.args.cut k))
    (c.over.ensures.lane k lt ∙ ap (λ (n : ℕ). over n (slice_index c.at_one.result.gap k)) (get_or-replicate {A = ℕ} 8 k 32768 0 lt)))
