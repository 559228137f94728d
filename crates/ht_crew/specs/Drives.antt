-- What a drive does with its feed of jobs.
use Rattle.std.specs.Prelude.{◌≡◌, ◌≤◌, ℕ, [], length, true, Result, Err, IfOk, OnOk}
use Rattle.ht_feed.specs.Feeds.{IsLeft}
use Rattle.ht_drive.specs.Reports.{Report}
use Rattle.ht_crew.specs.declared.drive_fault.DriveFault.{DriveFault}
use Rattle.ht_crew.specs.declared.drive_fault.DriveFault.TheVariants.{Feed, NoMemory}
use Rattle.ht_crew.specs.Feeds.{CallFailed, FeedView, IsInTurn}

module _ {Fault : Type 0} where
  -- how a drive with a window of this number of jobs leaves its feed, however it ends
  pub record LeavesInTurn {F : Type 0} (shown : F → FeedView Fault) (Leads : F → F → Type 0) (window : ℕ) (old new : F) : Type 0 where
    -- only calls of the feed changed it
    pub leads : Leads old new
    -- no more jobs are due than the window has room for
    pub due : length (shown new).due ≤ window
    -- and they are the last of those given
    pub in_turn : IsInTurn (shown old).left (shown new)
    -- the feed takes back no fault
    pub later : (shown old).faults ≤ (shown new).faults

  -- a drive has gone through its feed
  pub record IsThrough (old new : FeedView Fault) : Type 0 where
    -- the feed has said that no job comes any more
    pub ended : new.ended ≡ true
    -- every job was run and taken
    pub none_due : new.due ≡ []
    -- none is left
    pub left : IsLeft new.left []
    -- no call of the feed failed
    pub unfailed : new.failed ≡ old.failed

  -- what a drive refuses with
  pub record RefusesBy {F T : Type 0} (shown : F → FeedView Fault) (old new : F) (result : Result T (DriveFault Fault)) : Type 0 where
    -- with what a call of the feed answered
    pub fault : (fault : Fault) → result ≡ Err (Feed fault) → CallFailed (shown old) (shown new) fault
    -- with `NoMemory` before the first call
    pub memory : result ≡ Err NoMemory → new ≡ old

  -- what a drive with a window of this number of jobs does with its feed, and what it answers
  pub record DrivesFeed {F : Type 0} (shown : F → FeedView Fault) (Leads : F → F → Type 0) (window : ℕ) (old new : F)
      (result : Result Report (DriveFault Fault)) : Type 0 where
    -- however it ends
    pub leaves : LeavesInTurn shown Leads window old new
    -- when the feed has ended, every job was run and taken, and no call failed
    pub through : OnOk result (IsThrough (shown old) (shown new))
    -- the report says how many jobs the feed gave
    pub jobs : IfOk result (λ report. report.jobs ≡ (shown new).count)
    -- what it refuses with
    pub refuses : RefusesBy shown old new result
