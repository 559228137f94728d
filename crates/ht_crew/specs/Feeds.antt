-- What is seen of a feed of jobs, and what each answer of it means.
use Rattle.std.specs.Prelude.{◌≡◌, ◌↔◌, ℕ, ◌+◌, ◌-◌, ◌<◌, ◌≤◌, List, [], ◌∷◌, ◌++◌, length, take, drop, Option, Some, IsSome, Bool, true, false}
use Rattle.ht_io.specs.Causes.{HasRisen}
use Rattle.ht_metric.specs.Jobs.{JobView}
use Rattle.ht_feed.specs.Feeds.{ComeFirst, IsLeft}
use Rattle.ht_feed.specs.Items.{Numbered}

-- all that is seen of a feed at one moment, for its type of fault
pub record FeedView (Fault : Type 0) : Type 0 where
  -- how many jobs it has given
  pub count : ℕ
  -- the jobs given and not taken, in the order in which they were given
  pub due : List JobView
  -- the jobs still to come, where they are known
  pub left : Option (List JobView)
  -- a number of jobs beyond which none comes
  pub more : ℕ
  -- it has said that no job comes any more
  pub ended : Bool
  -- how often it has failed
  pub faults : ℕ
  -- what the last call that failed answered
  pub failed : Option Fault

module _ {Fault : Type 0} where
  -- a feed that has given nothing yet
  pub record IsFreshFeed (feed : FeedView Fault) : Type 0 where
    pub none_given : feed.count ≡ 0
    pub none_due : feed.due ≡ []
    pub running : feed.ended ≡ false

  -- the feed gave this job
  pub record GivesJob (old new : FeedView Fault) (job : JobView) : Type 0 where
    pub running : new.ended ≡ false
    pub number : job.number ≡ old.count
    pub count : new.count ≡ old.count + 1
    pub due : new.due ≡ old.due ++ job ∷ []
    pub more : new.more < old.more
    pub left : ComeFirst old.left new.left (job ∷ [])
    pub failed : new.failed ≡ old.failed

  -- the feed said that no job comes any more
  pub record EndsJobs (old new : FeedView Fault) : Type 0 where
    pub ended : new.ended ≡ true
    pub count : new.count ≡ old.count
    pub due : new.due ≡ old.due
    pub known : IsSome new.left ↔ IsSome old.left
    pub left : IsLeft new.left []
    pub failed : new.failed ≡ old.failed

  -- the feed took the hit of the first job due
  pub record TakesHit (old new : FeedView Fault) : Type 0 where
    pub due : new.due ≡ drop 1 old.due
    pub failed : new.failed ≡ old.failed

  -- the feed answered this fault
  pub record Fails (old new : FeedView Fault) (fault : Fault) : Type 0 where
    pub rose : HasRisen old.faults new.faults
    pub failed : new.failed ≡ Some fault
    pub count : new.count ≡ old.count
    pub due : new.due ≡ old.due
    pub known : IsSome new.left ↔ IsSome old.left
    pub ended : new.ended ≡ old.ended

  -- the feed gives what it would have given
  pub record GivesAsBefore (old new : FeedView Fault) : Type 0 where
    pub count : new.count ≡ old.count
    pub left : new.left ≡ old.left
    pub more : new.more ≡ old.more
    pub ended : new.ended ≡ old.ended

  -- a call of the feed failed between the two moments, and this is what the last such call answered
  pub record CallFailed (old new : FeedView Fault) (fault : Fault) : Type 0 where
    pub rose : HasRisen old.faults new.faults
    pub failed : new.failed ≡ Some fault

  -- the jobs due are the last of those given, by their numbers; and by what they are, where the feed's jobs were known
  -- at the start
  pub record IsInTurn (known : Option (List JobView)) (feed : FeedView Fault) : Type 0 where
    pub within : length feed.due ≤ feed.count
    pub numbers : Numbered (feed.count - length feed.due) feed.due
    pub jobs : (all : List JobView) → known ≡ Some all → feed.due ≡ drop (feed.count - length feed.due) (take feed.count all)
