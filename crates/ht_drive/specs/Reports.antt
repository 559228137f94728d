-- What the workers of a drive have run.
use Rattle.std.specs.Prelude.{◌≡◌, ◌+◌, ◌≤◌, ◌++◌, ◌∷◌, ℕ, List, [], length, map, sum, min, drop, Option, None, Some, IfSome, IsSome}
use Rattle.std.specs.List.{All, flat_map}
use Rattle.crossbeam_queue.specs.Passes.{view}
use Rattle.ht_metric.specs.Jobs.{JobView}
use Rattle.ht_list.specs.Counts.{SameCounts}
use Rattle.ht_pool.specs.Pools.{IsEmptied, moved_on, taken_on}
use Rattle.ht_pool.specs.Through.{first_of, through}
use Rattle.ht_pool.specs.declared.pass_log.PassLog.{PassLog}
use Rattle.ht_feed.specs.OwnNumbers.{AreByNumber, HaveNumbers}
use Rattle.ht_feed.specs.Dues.{NoneEmpty, all_in}
use Rattle.ht_drive.specs.Blocks.{RunBlock, jobs_of, jobs_run, lacking, task_of}
use Rattle.ht_drive.specs.declared.report.Passes.{Passes as PassesOf}
use Rattle.ht_drive.specs.declared.report.Report.{Report as ReportOf}

-- a report of blocks that were given, and of what came of blocks
abbrev pub Report : Type 0
Report = ReportOf (List JobView) RunBlock

abbrev pub Passes : Type 0
Passes = PassesOf (List JobView) RunBlock

-- how many jobs the feed gave, as a report says
abbrev pub jobs_reported : Report → ℕ
jobs_reported report = report.jobs

-- what went through the deques
abbrev pub deques_of : Passes → List (PassLog (List JobView))
deques_of passes = map through passes.deques.items

-- the blocks that were pushed on the caller's deque, in order
abbrev pub blocks_pushed : Passes → List (List JobView)
blocks_pushed passes = (first_of (deques_of passes)).pushed

-- what went through the queue: what came of the blocks that others ran
abbrev pub came_back : Passes → PassLog RunBlock
came_back passes = view passes.results

-- one worker ran all jobs without a pool
pub record HasRunAlone (report : Report) : Type 0 where
  pub own : report.own ≡ report.jobs
  pub ran : report.ran.items ≡ []
  pub passes : report.passes ≡ None

-- who ran the blocks that were pushed, with a number for each worker, the caller first
pub record IsShared (ran : List ℕ) (passes : Passes) : Type 0 where
  -- what came of the blocks that the caller took back and ran
  pub mine : List RunBlock
  -- of those that each of the others ran and delivered, which are those that were pushed on the queue
  pub others : List (List RunBlock)
  pub delivered : (came_back passes).pushed ≡ flat_map (λ (runs : List RunBlock). runs) others
  -- each block was run by the caller or by one of the others, and that once
  pub once : SameCounts (map task_of mine ++ map task_of (came_back passes).pushed) (blocks_pushed passes)
  -- none lacks its answer
  pub mine_answered : lacking mine ≡ 0
  pub answered : lacking (came_back passes).pushed ≡ 0
  -- the numbers are those of the jobs of their blocks
  pub numbers : ran ≡ jobs_run mine ∷ map jobs_run others

-- this number of workers ran the jobs, with room for at least `capacity` blocks in the pool
pub record HasRunInPool (workers capacity : ℕ) (report : Report) (passes : Passes) : Type 0 where
  -- there is a deque for each worker, the caller's first
  pub deques : length passes.deques.items ≡ workers
  -- all jobs but the caller's own were pushed on the caller's deque, in blocks, none of which is empty
  pub pushed : jobs_of (blocks_pushed passes) + report.own ≡ report.jobs
  pub full : NoneEmpty (blocks_pushed passes)
  -- and at least as many of them as there was room for blocks, or all
  pub sure : report.own + min report.jobs capacity ≤ report.jobs
  -- each of them has a number of its own below the number of jobs
  pub numbers : HaveNumbers report.jobs (all_in (blocks_pushed passes))
  -- on each deque the blocks taken are those pushed, so nothing is left
  pub emptied : All IsEmptied (deques_of passes)
  -- the blocks run, which are those taken on all deques less those moved on, are those pushed on the caller's, each
  -- once
  pub taken : SameCounts (taken_on (deques_of passes)) (blocks_pushed passes ++ moved_on (deques_of passes))
  -- by this number of workers, the caller first, each of whom counted the jobs of its blocks: with the caller's own
  -- they are all jobs
  pub each : length report.ran.items ≡ workers
  pub ran : report.own + sum report.ran.items ≡ report.jobs
  pub shared : IsShared report.ran.items passes
  -- so the blocks on the queue have as many jobs as the workers beside the caller counted
  pub helped : jobs_run (came_back passes).pushed ≡ sum (drop 1 report.ran.items)
  -- and what the caller took from the queue is what was pushed on it, each once
  pub received : SameCounts (came_back passes).taken (came_back passes).pushed

-- This number of workers ran the jobs of a feed with a window of this number of jobs. `left`: the jobs to come, where they were
-- known.
pub record HasRunJobs (workers window : ℕ) (left : Option (List JobView)) (report : Report) : Type 0 where
  -- one worker without a pool
  pub alone : workers ≡ 1 → HasRunAlone report
  -- more by a pool, of which the report has passes
  pub passes : 2 ≤ workers → IsSome report.passes
  pub in_pool : 2 ≤ workers → IfSome report.passes (HasRunInPool workers window report)
  -- where the jobs to come were known, each one that was pushed is that of its number
  pub by_number : (all : List JobView) → left ≡ Some all → IfSome report.passes (λ passes. AreByNumber all (all_in (blocks_pushed passes)))
