use Rattle.std.proofs.Common.{slice_index, ℕ, ap, ◌∙◌}
use Rattle.ht_rounding.specs.Words.{minus, size}
use Rattle.ht_rounding.proofs.levels.folded.Goals as goal

pub returns : goal.returns
returns c k lt =
    c.minus.ensures.lane k lt ∙ ap (λ (n : ℕ). minus n (slice_index c.times.result k)) (c.size.ensures.lane k lt)
    ∙ ap (λ (n : ℕ). minus (size (slice_index c.args.target k)) n) (c.times.ensures.lane k lt)
