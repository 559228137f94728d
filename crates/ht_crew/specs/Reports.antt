-- Which jobs went through a drive.
use Rattle.std.specs.Prelude.{◌≤◌, ℕ, List, map}
use Rattle.std.specs.List.{sum_by}
use Rattle.ht_metric.specs.Jobs.{JobView}
use Rattle.ht_feed.specs.Dues.{all_in}
use Rattle.ht_drive.specs.Blocks.{task_of}
use Rattle.ht_drive.specs.Reports.{Passes, blocks_pushed, came_back}

-- the jobs that were pushed on the caller's deque, in order
abbrev pub jobs_pushed : Passes → List JobView
jobs_pushed passes = all_in (blocks_pushed passes)

-- the jobs whose hits the workers beside the caller delivered
abbrev pub jobs_delivered : Passes → List JobView
jobs_delivered passes = all_in (map task_of (came_back passes).pushed)

-- they are of jobs that were pushed, each as often as it was pushed, or less often
abbrev pub HasDelivered : Passes → Type 0
HasDelivered passes = (h : JobView → ℕ) → sum_by h (jobs_delivered passes) ≤ sum_by h (jobs_pushed passes)
