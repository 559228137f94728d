use Rattle.std.proofs.Common.{ℕ, length, ap, ◌∙◌}
use Rattle.ht_pam.specs.Ladders.{Rungs}
use Rattle.ht_soft.specs.Halves.{axis_named, cut_axis}
use Rattle.ht_soft.proofs.halves.cut.Goals as goal

pub returns : goal.returns
unfolding cut_axis
returns c =
    let made : ℕ → ℕ → Rungs = λ s m. record { size = s; mask = m } in
    c.of.ensures ∙ (ap (λ (s : ℕ). made s c.mask.result) c.levels.ensures.value ∙ ap (made (length (axis_named c.args.count))) c.mask.ensures.value)
