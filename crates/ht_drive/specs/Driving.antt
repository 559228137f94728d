-- What the window of a drive, its counts and its feed have to do with one another.
use Rattle.std.specs.Prelude.{◌≡◌, ◌+◌, ◌<◌, ◌≤◌, ℕ, List, [], length, Bool, not, true, false, Option, Some, None, Result, IfErr, IfOk}
use Rattle.ht_metric.specs.Jobs.{JobView}
use Rattle.ht_feed.specs.OwnNumbers.{AreByNumber, HaveNumbers}
use Rattle.ht_feed.specs.Drives.{IsThrough, LeavesInTurn}
use Rattle.ht_feed.specs.Dues.{NoneEmpty, all_in, count_in}
use Rattle.ht_feed.specs.Feeds.{FeedView, IsAlong, IsFreshFeed, IsInTurn, IsLeft}
use Rattle.ht_feed.specs.declared.drive.DriveFault.{DriveFault}
use Rattle.ht_feed.specs.declared.drive.DriveFault.TheVariants.{Feed, NoMemory, Work}
use Rattle.ht_drive.specs.Blocks.{BlockCaller, BlockWindow, IsSameCaller, IsSettled, jobs_of}
use Rattle.ht_drive.specs.declared.counts.CallerCounts.{CallerCounts}

-- the counts of a caller fit the blocks that it gave to the pool
pub record AreCountsOf (t : CallerCounts) (caller : BlockCaller) : Type 0 where
  -- a job was given to the pool, or is the caller's own
  pub jobs : jobs_of caller.given + t.own ≡ t.issued
  pub blocks : length caller.given ≤ t.issued
  pub full : NoneEmpty caller.given
  -- the caller kept none before the pool had as many blocks as there is room for
  pub sure : 0 < t.own → caller.capacity ≤ length caller.given
  pub numbers : HaveNumbers t.issued (all_in caller.given)

module _ {Fault : Type 0} where
  -- the window holds the blocks due, and has room for their jobs
  pub record Holds (window : BlockWindow) (feed : FeedView Fault) : Type 0 where
    pub due : window.due ≡ feed.due
    pub few : count_in feed.due ≤ window.capacity

  -- blocks were taken, if any were, and the feed gives what it would have given
  pub record OnlyTakes (old new : FeedView Fault) : Type 0 where
    pub count : new.count ≡ old.count
    pub left : new.left ≡ old.left
    pub more : new.more ≡ old.more
    pub ended : new.ended ≡ old.ended
    pub failed : new.failed ≡ old.failed

  -- the feed goes on, or has ended and has nothing left, and no call of it failed
  pub record IsUnderWay (running : Bool) (feed : FeedView Fault) : Type 0 where
    pub ended : feed.ended ≡ not running
    pub left : running ≡ false → IsLeft feed.left []
    pub well : feed.failed ≡ None

  -- a caller that has begun nothing yet: its window is empty, its feed is fresh, and nothing was given to its pool
  pub record HasYetToLead (window : BlockWindow) (caller : BlockCaller) (feed : FeedView Fault) : Type 0 where
    pub few : window.capacity ≤ 4096
    pub empty : window.due ≡ []
    pub fresh : IsFreshFeed feed
    pub untouched : caller.given ≡ []
    pub whole : caller.whole ≡ true

  -- how a caller stands between two calls of its feed
  pub record Stands (running : Bool) (window : BlockWindow) (caller : BlockCaller) (t : CallerCounts) (feed : FeedView Fault) : Type 0 where
    -- its window holds what is due
    pub holds : Holds window feed
    -- its counts fit what it gave to the pool, and what the feed gave
    pub counted : AreCountsOf t caller
    pub issued : t.issued ≡ feed.count
    -- the feed goes on, or has ended
    pub under_way : IsUnderWay running feed

  -- a feed that gave its jobs in turn has gone on so
  abbrev pub KeepsTurn : FeedView Fault → FeedView Fault → Type 0
  KeepsTurn old new = (known : Option (List JobView)) → IsAlong known old → IsAlong known new

  -- where the feed gave its jobs in turn and each job given to the pool was the one of its number, each still is
  abbrev pub KeepsNumbers : FeedView Fault → BlockCaller → BlockCaller → Type 0
  KeepsNumbers feed before after = (all : List JobView) → IsAlong (Some all) feed → AreByNumber all (all_in before.given) → AreByNumber all (all_in after.given)

  -- how a step of a caller leaves its window and its feed, however it ends
  pub record StepsOn {F : Type 0} (shown : F → FeedView Fault) (Leads : F → F → Type 0) (window window' : BlockWindow) (old new : F) : Type 0 where
    -- only calls of the feed changed it
    pub leads : Leads old new
    pub capacity : window'.capacity ≡ window.capacity
    -- no more jobs are due than the window has room for
    pub due : count_in (shown new).due ≤ window.capacity
    -- and they are the last of those given, where the feed gave its jobs in turn
    pub in_turn : (known : Option (List JobView)) → IsAlong known (shown old) → IsInTurn known (shown new)

  -- a caller has gone on, and stands so
  pub record IsLeading {F : Type 0} (shown : F → FeedView Fault) (Leads : F → F → Type 0) (running : Bool) (window window' : BlockWindow)
      (caller caller' : BlockCaller) (t' : CallerCounts) (old new : F) : Type 0 where
    pub stands : Stands running window' caller' t' (shown new)
    -- only calls of the feed changed it
    pub leads : Leads old new
    -- it has the same window and the same pool
    pub capacity : window'.capacity ≡ window.capacity
    pub same : IsSameCaller caller caller'
    -- of which each block that came back since was answered
    pub whole : caller'.whole ≡ caller.whole
    -- the feed was asked in turn, and what was given to the pool is what it gave
    pub turn : KeepsTurn (shown old) (shown new)
    pub by_number : KeepsNumbers (shown old) caller caller'

  -- once its feed was called a drive refuses with what a call of it answered; or no call failed, and there was no memory
  -- for the work on a block or for a copy, where either may lack it
  abbrev pub Refuses : Type 0 → FeedView Fault → DriveFault Fault → Type 0
  Refuses MayLack feed (Feed fault) = feed.failed ≡ Some fault
  Refuses MayLack feed NoMemory = ⊥
  Refuses MayLack feed Work = (feed.failed ≡ None) × MayLack

  -- a caller has led all blocks of a feed through its end of a pool, with these counts
  pub record HasLed (old new : FeedView Fault) (caller : BlockCaller) (t : CallerCounts) : Type 0 where
    pub through : IsThrough new
    pub jobs : t.issued ≡ new.count
    pub counted : AreCountsOf t caller
    -- where the jobs to come were known, each one given to the pool is that of its number
    pub by_number : (all : List JobView) → old.left ≡ Some all → AreByNumber all (all_in caller.given)
    -- each was taken back or received, and all with their answers
    pub settled : IsSettled caller
    pub whole : caller.whole ≡ true

  -- a caller leads the blocks of a feed through a window of this number of jobs and its end of a pool, and answers this
  pub record LeadsBlocks {F : Type 0} (shown : F → FeedView Fault) (Leads : F → F → Type 0) (MayLack : Type 0) (window : ℕ) (old new : F)
      (before after : BlockCaller) (result : Result CallerCounts (DriveFault Fault)) : Type 0 where
    -- however it ends
    pub leaves : LeavesInTurn shown Leads window old new
    pub same : IsSameCaller before after
    -- where the feed has ended
    pub led : IfOk result (HasLed (shown old) (shown new) after)
    -- what it refuses with
    pub refuses : IfErr result (Refuses MayLack (shown new))
