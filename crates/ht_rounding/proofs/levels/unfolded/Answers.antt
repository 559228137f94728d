use Rattle.std.proofs.Common.{slice_index, ℕ, ap, ◌∙◌}
use Rattle.ht_rounding.specs.Words.{turned}
use Rattle.ht_rounding.proofs.levels.unfolded.Goals as goal

pub returns : goal.returns
returns c k lt = c.turned.ensures.lane k lt ∙ ap (λ (n : ℕ). turned (slice_index c.args.target k) n) (c.raised.ensures.lane k lt)
