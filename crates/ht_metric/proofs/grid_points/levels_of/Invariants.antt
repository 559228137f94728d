use Rattle.std.proofs.Common.{◌≡◌, take}
use Rattle.std.specs.List.{filter}
use Rattle.ht_pam.specs.Ladders.{has}
use Rattle.ht_pam.proofs.Tables.{every}
use Rattle.ht_metric.proofs.grid_points.levels_of.Given as goal

-- those of the first levels that the ladder has
abbrev pub invariant-loop-level : goal.invariant-loop-level
invariant-loop-level l = l.levels.items ≡ filter (has l.ladder) (take l.level-index every)
