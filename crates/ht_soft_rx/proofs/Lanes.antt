-- The least distance of a job in a lane.
use Rattle.std.proofs.Common.{◌≡◌, ℕ, ◌+◌, ◌-◌, ◌<◌, ◌≤◌, List, Option, Some, slice_get, slice_index, ap, sym, ◌∙◌, subst, arith}
use Rattle.ht_pam.specs.declared.point.Point.{Point}
use Rattle.ht_metric.specs.Jobs.{JobView, near}
use Rattle.ht_rounding.specs.declared.eight.Labelled.{Labelled}
use Rattle.ht_rounding.specs.Labels.{AreLabelledFrom, IsLabelledIn}

pub in_lane : (label : Point → ℕ) (jobs : List JobView) (lanes : Labelled) (from at lane : ℕ) (job : JobView) → lane ≡ at - from → from ≤ at → at < from + 8
    → AreLabelledFrom label jobs from lanes → Some job ≡ slice_get jobs at → 0 < slice_index lanes.sure lane
    → slice_index lanes.distance lane ≡ (near job).distance
in_lane label jobs lanes from at lane job is first last all there sure =
    let here : from + lane ≡ at = omega arith in
    let found : slice_get jobs (from + lane) ≡ Some job = ap (slice_get jobs) here ∙ sym there in
    let labelled : IsLabelledIn label lanes lane (Some job) =
    subst (λ (o : Option JobView). IsLabelledIn label lanes lane o) found (all lane (omega arith)) in
    (labelled sure).distance
