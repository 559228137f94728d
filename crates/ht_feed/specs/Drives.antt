-- What a drive does with its feed.
use Rattle.std.specs.Prelude.{◌≡◌, ◌≤◌, ℕ, [], Some, None, true, Result, Err, IfOk, OnOk}
use Rattle.ht_feed.specs.declared.drive.DriveFault.{DriveFault}
use Rattle.ht_feed.specs.declared.drive.DriveFault.TheVariants.{Feed, NoMemory, Work}
use Rattle.ht_feed.specs.Dues.{count_in}
use Rattle.ht_feed.specs.Feeds.{FeedView, IsInTurn, IsLeft}

module _ {Fault : Type 0} where
  -- how a drive with a window of this number of jobs leaves its feed, however it ends
  pub record LeavesInTurn {F : Type 0} (shown : F → FeedView Fault) (Leads : F → F → Type 0) (window : ℕ) (old new : F) : Type 0 where
    -- only calls of the feed changed it
    pub leads : Leads old new
    -- no more jobs are due than the window has room for
    pub due : count_in (shown new).due ≤ window
    -- and they are the last of those given
    pub in_turn : IsInTurn (shown old).left (shown new)

  -- a feed that a drive has gone through
  pub record IsThrough (feed : FeedView Fault) : Type 0 where
    -- it has said that no block comes any more
    pub ended : feed.ended ≡ true
    -- every block was run and taken
    pub none_due : feed.due ≡ []
    -- none is left
    pub left : IsLeft feed.left []
    -- no call of it failed
    pub well : feed.failed ≡ None

  -- what a drive of a feed refuses with, where the work on a block or a copy of one may lack memory
  pub record RefusesBy {F T : Type 0} (shown : F → FeedView Fault) (MayLack : Type 0) (old new : F) (result : Result T (DriveFault Fault)) : Type 0 where
    -- with what a call of the feed answered
    pub fault : (fault : Fault) → result ≡ Err (Feed fault) → (shown new).failed ≡ Some fault
    -- with `NoMemory` before the first call
    pub memory : result ≡ Err NoMemory → new ≡ old
    -- with `Work` where no call failed
    pub work : result ≡ Err Work → (shown new).failed ≡ None
    -- and where memory may lack
    pub lacks : result ≡ Err Work → MayLack

  -- what a drive of a feed of blocks does with a window of this number of jobs. `MayLack`: the work on a block, or a copy of
  -- one, may lack memory. `jobs_of`: the number of jobs that an answer tells
  pub record DrivesBlocks {F T : Type 0} (shown : F → FeedView Fault) (Leads : F → F → Type 0) (MayLack : Type 0) (jobs_of : T → ℕ) (window : ℕ) (old new : F)
      (result : Result T (DriveFault Fault)) : Type 0 where
    -- however it ends
    pub leaves : LeavesInTurn shown Leads window old new
    -- with Ok the feed has ended, the answer to every block was taken, and no call failed
    pub through : OnOk result (IsThrough (shown new))
    -- the number of jobs told is how many the feed gave
    pub jobs : IfOk result (λ done. jobs_of done ≡ (shown new).count)
    -- what it refuses with
    pub refuses : RefusesBy shown MayLack old new result
