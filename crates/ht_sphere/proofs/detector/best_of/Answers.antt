use Rattle.std.proofs.Common.{◌≡◌, ◌∙◌, [], ◌^◌, ◌<◌, ℕ, ℤ, List, length, sym, subst, arith}
use Rattle.ht_metric.specs.Jobs.{JobView}
use Rattle.ht_sphere.specs.Coordinates.{from_last}
use Rattle.ht_sphere.specs.Tree.{Reached, rounding}
use Rattle.ht_sphere.specs.Searching.{leaves, IsBest, IsBestOf}
use Rattle.ht_sphere.proofs.Others.{inside_some}
use Rattle.ht_sphere.proofs.detector.best_of.Goals as goal

-- successive rounding has found the best, and no step was taken
alone_is_best : (job : JobView) (old levels : List ℤ) (distance steps : ℕ) → length levels ≡ length old
    → rounding (from_last job.system job.grid) [] 0 ≡ (let found : Reached = (levels, distance) in found)
    → IsBestOf (levels, distance) (leaves (from_last job.system job.grid) [] 0) (levels, distance) → distance < 2 ^ 66
    → IsBest job old levels distance steps steps
alone_is_best job old levels distance steps long found best bound =
    let cs = from_last job.system job.grid in
    let some = inside_some (rounding cs [] 0).1 cs in
    record {
      size = long;
      best = subst (λ (first : Reached). IsBestOf first (leaves cs [] 0) (levels, distance)) (sym found) best;
      bound = bound;
      steps = omega (arith, some);
    }

pub returns-then-first : goal.returns-then-first
returns-then-first g c =
    let first = c.rounded-first.ensures in
    alone_is_best c.args.job.now _ _ _ _ first.size first.found (first.alone c.if-first.true) first.bound

pub returns-then-second : goal.returns-then-second
returns-then-second g c =
    let second = c.rounded-second.ensures in
    alone_is_best c.args.job.now _ _ _ _ (second.size ∙ c.rounded-first.ensures.size) second.found (second.alone c.if-second.true) second.bound
