-- A feed of single jobs as one of blocks of one job each.
use Rattle.std.specs.Prelude.{◌≡◌, ℕ, ◌≤◌, List, [], ◌∷◌, map, None, IsSome, Bool, true, false, if◌then◌else◌}
use Rattle.ht_io.specs.Causes.{HasRisen}
use Rattle.ht_metric.specs.Jobs.{JobView}
use Rattle.ht_feed.specs.Feeds.{FeedView as BlocksView}
use Rattle.ht_crew.specs.Feeds.{FeedView}
use Rattle.ht_crew.specs.declared.singles.Singles.{Singles}

-- the block of a job
abbrev pub block_of : JobView → List JobView
block_of job = job ∷ []

-- which borrows the feed and the note are
pub record Names : Type 0 where
  pub feed : ℕ
  pub failed : ℕ

abbrev pub names : ℕ → ℕ → Names
names feed failed = record { feed = feed; failed = failed }

module _ {Fault : Type 0} where
  -- what is seen of a feed of single jobs as one of blocks; what a call answered that failed shows where a failure was noted
  abbrev pub block_view : Bool → FeedView Fault → BlocksView Fault
  block_view noted feed = record {
    count = feed.count;
    due = map block_of feed.due;
    left = feed.left;
    more = feed.more;
    ended = feed.ended;
    failed = if noted then feed.failed else None;
  }

  -- a note is made where the count of faults has risen, and stands; without one, no call failed
  abbrev pub Notes : Bool → Bool → FeedView Fault → FeedView Fault → Type 0
  Notes false false old new = new.failed ≡ old.failed
  Notes false true old new = HasRisen old.faults new.faults × IsSome new.failed
  Notes true false old new = ⊥
  Notes true true old new = IsSome old.failed → IsSome new.failed

module _ {F : Type 0} where
  abbrev pub names_of : Singles F → Names
  names_of s = names s.feed.ghost_name s.failed.ghost_name

  -- this is seen of the blocks of a feed that shows this
  abbrev pub in_blocks : {Fault : Type 0} → (F → FeedView Fault) → Singles F → BlocksView Fault
  in_blocks shown s = block_view s.failed.now (shown s.feed.now)

module _ {F Fault : Type 0} (leads : F → F → Type 0) (shown : F → FeedView Fault) where
  -- it is the same feed, which went on, and its failures were noted
  pub record LeadsOn (a b : Singles F) : Type 0 where
    pub same : names_of a ≡ names_of b
    pub on : leads a.feed.now b.feed.now
    pub later : (shown a.feed.now).faults ≤ (shown b.feed.now).faults
    pub notes : Notes a.failed.now b.failed.now (shown a.feed.now) (shown b.feed.now)
