use Rattle.std.proofs.Common.{List, ◌∙◌, ap, sym, length}
use Rattle.ht_metric.specs.Rows.{Row}
use Rattle.ht_metric.proofs.Allowed.{long_as_grid, small_points}
use Rattle.ht_metric.proofs.hit.Hit.of.Goals as goal

pub distance-requires-clause-streams : goal.distance-requires-clause-streams
distance-requires-clause-streams c =
    long_as_grid c.args.job.grid c.args.vector c.requires.near.within ∙ c.system.ensures.job.streams
    ∙ ap (λ (rows : List Row). length rows) (sym c.system.ensures.system)

pub distance-requires-clause-levels : goal.distance-requires-clause-levels
distance-requires-clause-levels c = small_points c.args.job.grid c.args.vector c.system.ensures.job.grid.ladders c.requires.near.within
