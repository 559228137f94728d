-- What is seen of a feed of blocks, and what each answer of it means.
use Rattle.std.specs.Prelude.{◌≡◌, ◌↔◌, ℕ, ◌+◌, ◌-◌, ◌≤◌, List, [], ◌∷◌, ◌++◌, take, drop, length, Option, Some, None, IsSome, Bool, true, false}
use Rattle.ht_metric.specs.Jobs.{JobView}
use Rattle.ht_feed.specs.Dues.{all_in, count_in}
use Rattle.ht_feed.specs.Items.{Numbered}

-- all that is seen of a feed at one moment, for its type of fault
pub record FeedView (Fault : Type 0) : Type 0 where
  -- how many jobs it has given
  pub count : ℕ
  -- the jobs of each block given and not taken, in the order in which they were given
  pub due : List (List JobView)
  -- the jobs still to come, where they are known
  pub left : Option (List JobView)
  -- a number of jobs beyond which none comes
  pub more : ℕ
  -- it has said that no block comes any more
  pub ended : Bool
  -- what the last call that failed answered, if one failed
  pub failed : Option Fault

-- where the jobs still to come are known, they are these
abbrev pub IsLeft : Option (List JobView) → List JobView → Type 0
IsLeft None jobs = Unit {0}
IsLeft (Some left) jobs = left ≡ jobs

-- the jobs still to come are known exactly where they were known before, and these jobs were the first of them
abbrev pub ComeFirst : Option (List JobView) → Option (List JobView) → List JobView → Type 0
ComeFirst None None jobs = Unit {0}
ComeFirst None (Some after) jobs = ⊥
ComeFirst (Some before) None jobs = ⊥
ComeFirst (Some before) (Some after) jobs = before ≡ jobs ++ after

module _ {Fault : Type 0} where
  -- a feed that has given nothing yet
  pub record IsFreshFeed (feed : FeedView Fault) : Type 0 where
    pub none_given : feed.count ≡ 0
    pub none_due : feed.due ≡ []
    pub running : feed.ended ≡ false
    pub well : feed.failed ≡ None

  -- the feed gave a block of these jobs, at least one and at most this number
  pub record GivesBlock (most : ℕ) (old new : FeedView Fault) (jobs : List JobView) : Type 0 where
    pub running : new.ended ≡ false
    pub numbers : Numbered old.count jobs
    pub some : 1 ≤ length jobs
    pub few : length jobs ≤ most
    pub count : new.count ≡ old.count + length jobs
    pub due : new.due ≡ old.due ++ jobs ∷ []
    pub left : ComeFirst old.left new.left jobs
    pub more : new.more + length jobs ≤ old.more
    pub failed : new.failed ≡ old.failed

  -- the feed said that no block comes any more
  pub record EndsBlocks (old new : FeedView Fault) : Type 0 where
    pub ended : new.ended ≡ true
    pub count : new.count ≡ old.count
    pub due : new.due ≡ old.due
    pub known : IsSome new.left ↔ IsSome old.left
    pub left : IsLeft new.left []
    pub failed : new.failed ≡ old.failed

  -- the feed took the hits of the first block due, and gives what it would have given
  pub record TakesBlock (old new : FeedView Fault) : Type 0 where
    pub due : new.due ≡ drop 1 old.due
    pub count : new.count ≡ old.count
    pub left : new.left ≡ old.left
    pub more : new.more ≡ old.more
    pub ended : new.ended ≡ old.ended
    pub failed : new.failed ≡ old.failed

  -- the feed answered this fault: no block was given, those that are due stay due, and it may be asked again if it might
  -- before
  pub record Fails (old new : FeedView Fault) (fault : Fault) : Type 0 where
    pub failed : new.failed ≡ Some fault
    pub count : new.count ≡ old.count
    pub due : new.due ≡ old.due
    pub known : IsSome new.left ↔ IsSome old.left
    pub ended : new.ended ≡ old.ended

  -- the jobs due are the last of those given, by their numbers; and by what they are, where the feed's jobs were known
  -- at the start
  pub record IsInTurn (known : Option (List JobView)) (feed : FeedView Fault) : Type 0 where
    pub within : count_in feed.due ≤ feed.count
    pub numbers : Numbered (feed.count - count_in feed.due) (all_in feed.due)
    pub jobs : (all : List JobView) → known ≡ Some all → all_in feed.due ≡ drop (feed.count - count_in feed.due) (take feed.count all)

  -- a feed that gives its jobs in turn: of those that were known at the start it has given the first, and while it goes
  -- on it has the others left
  pub record IsAlong (known : Option (List JobView)) (feed : FeedView Fault) : Type 0 where
    pub in_turn : IsInTurn known feed
    pub given : (all : List JobView) → known ≡ Some all → feed.count ≤ length all
    pub left : (all : List JobView) → known ≡ Some all → feed.ended ≡ false → feed.left ≡ Some (drop feed.count all)
