use Rattle.std.proofs.Common.{◌≡◌, ◌∙◌, List, ap}
use Rattle.ht_pam.specs.declared.axes.Axes.{Axes}
use Rattle.ht_metric.specs.Jobs.{JobView}
use Rattle.ht_soft.specs.Halves.{half_grid_of}
use Rattle.ht_soft.proofs.Cuts.{half-vectors}
use Rattle.ht_soft.proofs.halves.half.Goals as goal

pub returns-clause-vectors : goal.returns-clause-vectors
returns-clause-vectors c = λ x.
    let m = c.args.modulation in
    let grid = c.args.job.now.grid in
    let half : List Axes → List Axes = half_grid_of m c.args.stream c.args.bit c.args.value in
    let made : c.new.result.grid ≡ half grid =
    ap (λ (j : JobView). j.grid) c.new.ensures ∙ (c.half_grid-grid.ensures ∙ ap half c.grid.ensures.grid) in
    half-vectors m c.args.stream c.args.bit c.args.value grid c.new.result.grid x c.requires.full c.requires.first c.requires.last c.requires.bit made
