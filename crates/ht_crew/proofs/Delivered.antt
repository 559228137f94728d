-- Jobs of blocks that came back are jobs of blocks that were pushed.
use Rattle.std.proofs.Common.{◌≡◌, ℕ, List, [], ◌∷◌, map, Option, None, Some, IfSome, refl, arith}
use Rattle.std.specs.List.{sum_by}
use Rattle.std.proofs.lemmas.List.Sums.{sum_by-append, sum_by-cons}
use Rattle.ht_metric.specs.Jobs.{JobView}
use Rattle.ht_feed.specs.Dues.{all_in}
use Rattle.ht_drive.specs.Blocks.{task_of}
use Rattle.ht_drive.specs.Reports.{HasRunInPool, Passes, Report, blocks_pushed, came_back}
use Rattle.ht_crew.specs.Reports.{HasDelivered}

sum_all : (h : JobView → ℕ) (blocks : List (List JobView)) → sum_by h (all_in blocks) ≡ sum_by (λ (jobs : List JobView). sum_by h jobs) blocks
sum_all h [] = refl
sum_all h (jobs ∷ blocks) = omega (
  arith,
  sum_all h blocks,
  sum_by-append h jobs (all_in blocks),
  sum_by-cons (λ (jobs : List JobView). sum_by h jobs) jobs blocks,
)

delivered : (workers room : ℕ) (report : Report) (passes : Passes) → HasRunInPool workers room report passes → HasDelivered passes
delivered workers room report passes has h =
    let weight : List JobView → ℕ = λ (jobs : List JobView). sum_by h jobs in
    let once = has.shared.once weight in
    omega (
      arith,
      once,
      sum_by-append weight (map task_of has.shared.mine) (map task_of (came_back passes).pushed),
      sum_all h (map task_of (came_back passes).pushed),
      sum_all h (blocks_pushed passes),
    )

pub if_delivered : (workers room : ℕ) (report : Report) (passes : Option Passes) → IfSome passes (HasRunInPool workers room report) → IfSome passes HasDelivered
if_delivered workers room report None has = tt
if_delivered workers room report (Some passes) has = delivered workers room report passes has
