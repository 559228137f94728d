use Rattle.std.proofs.Common.{◌≡◌, ◌-◌, drop, length, IfSome}
use Rattle.std.specs.List.{fold}
use Rattle.ht_nearest.specs.Nearest.{keep}
use Rattle.ht_metric.specs.Distance.{distance_of}
use Rattle.ht_metric.specs.Vectors.{before}
use Rattle.ht_metric.specs.Trying.{IsMeasured, vector_of, ends_of}
use Rattle.ht_metric.proofs.Ends.{ends_by, behind}
use Rattle.ht_metric.proofs.nearest.+try_ends.Given as goal

abbrev pub decreases-try_ends : goal.decreases-try_ends
decreases-try_ends l = length l.grid.now - length l.front

-- the best so far and the points that are left to try give the best of all
abbrev pub invariant-loop-point : goal.invariant-loop-point
invariant-loop-point l = record {
  found : fold (keep (distance_of l.system) before) (vector_of l.best) (ends_by l.front (behind l.grid l.front) (drop l.point-index l.point-items))
      ≡ fold (keep (distance_of l.system) before) (vector_of l.fn.best) (ends_of l.grid l.front);
  best : IfSome l.best (IsMeasured l.system);
}
