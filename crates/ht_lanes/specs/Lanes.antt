-- Several lanes at one moment: what gives blocks, and the blocks that are due, of which each is of one of them.
use Rattle.std.specs.Prelude.{◌≡◌, ◌≢◌, ℕ, ◌++◌, ◌+◌, ◌-◌, ◌^◌, ◌<◌, ◌≤◌, List, [], ◌∷◌, map, length, slice_get, slice_index_or, Option, Some, None, Bool}
use Rattle.std.specs.Prelude.{true, false, nat_eq, if◌then◌else◌}
use Rattle.std.specs.Prelude.{Result, IfNone, IfOk, IfSome, OnErr, OnOk}
use Rattle.std.specs.Borrow.{MutBor}
use Rattle.ht_metric.specs.Jobs.{JobView}
use Rattle.ht_feed.specs.Items.{Numbered}
use Rattle.ht_feed.specs.Dues.{count_in}
use Rattle.ht_feed.specs.Feeds.{FeedView}
use Rattle.ht_feed.specs.Numbers.{numbered}
use Rattle.ht_feed.specs.Others.{OthersStay}

-- a block among those of several lanes: its jobs as its lane numbers them, from its own number on, and the number of its
-- first job among those of all lanes
pub record LaneJobs : Type 0 where
  pub jobs : List JobView
  pub own : ℕ
  pub first : ℕ

abbrev pub lane_jobs : List JobView → ℕ → ℕ → LaneJobs
lane_jobs jobs own first = record { jobs = jobs; own = own; first = first }

-- its jobs as its lane numbers them
abbrev pub own_jobs : LaneJobs → List JobView
own_jobs b = b.jobs

-- its jobs as the whole numbers them
abbrev pub whole_jobs : LaneJobs → List JobView
whole_jobs b = numbered b.first b.jobs

-- it is some jobs, numbered by their lane, and no number passes the end of its type
pub record IsOfLane (b : LaneJobs) : Type 0 where
  pub numbers : Numbered b.own b.jobs
  pub some : 1 ≤ length b.jobs
  pub bound : b.first + length b.jobs < 2 ^ 64

-- a block that is due, and the number of its lane
pub record DueOf : Type 0 where
  pub lane : ℕ
  pub block : LaneJobs

abbrev pub due_of : ℕ → LaneJobs → DueOf
due_of lane block = record { lane = lane; block = block }

-- the jobs of each block that is due, as the whole numbers them
abbrev pub whole_due : List DueOf → List (List JobView)
whole_due due = map (λ (d : DueOf). whole_jobs d.block) due

-- the jobs of each block of one lane, as that numbers them
abbrev pub due_at : ℕ → List DueOf → List (List JobView)
due_at k [] = []
due_at k (d ∷ ds) = if nat_eq d.lane k then d.block.jobs ∷ due_at k ds else due_at k ds

-- each block is of one of this many lanes, and has a job
abbrev pub Within : ℕ → List DueOf → Type 0
Within count due = (k : ℕ) (d : DueOf) → slice_get due k ≡ Some d → (d.lane < count) × (1 ≤ length d.block.jobs)

-- the most jobs that are given in all
abbrev pub most_jobs : ℕ
most_jobs = 2 ^ 64 - 2

-- a block of at most `most` jobs may be asked for, behind `given` jobs that all lanes together have given
pub record AsksFor (most given : ℕ) : Type 0 where
  pub some : 1 ≤ most
  pub bound : given + most < 2 ^ 64

-- several lanes as one feed
abbrev pub lanes_view : {F : Type 0} → ℕ → List DueOf → Bool → Option F → FeedView F
lanes_view count due ended failed =
    record { count = count; due = whole_due due; left = None; more = most_jobs - count; ended = ended; failed = failed }

-- a lane with its own source and sink
pub record Side (L S K : Type 0) : Type 0 where
  pub lane : L
  pub source : S
  pub sink : K

abbrev pub side_of : {L S K : Type 0} → L → S → K → Side L S K
side_of lane source sink = record { lane = lane; source = source; sink = sink }

-- all lanes, their sources and their sinks
pub record Sides (L S K : Type 0) : Type 0 where
  pub lanes : List L
  pub sources : List S
  pub sinks : List K

abbrev pub sides_of : {L S K : Type 0} → List L → List S → List K → Sides L S K
sides_of lanes sources sinks = record { lanes = lanes; sources = sources; sinks = sinks }

module _ {L S K : Type 0} where
  -- the lane with this number and its devices
  abbrev pub side_at : Sides L S K → L → S → K → ℕ → Side L S K
  side_at a l s t k = side_of (slice_index_or a.lanes k l) (slice_index_or a.sources k s) (slice_index_or a.sinks k t)

  -- what a lane does with its devices leads from the one to the other
  module _ (leads : Side L S K → Side L S K → Type 0) where
    -- only the lane with this number did something
    pub record OneLeads (a b : Sides L S K) (at : ℕ) : Type 0 where
      pub lanes : OthersStay a.lanes b.lanes at
      pub sources : OthersStay a.sources b.sources at
      pub sinks : OthersStay a.sinks b.sinks at
      pub here : (l : L) (s : S) (t : K) → leads (side_at a l s t at) (side_at b l s t at)

    -- each lane did what its own devices and its own blocks made it do
    pub record AllLead (a b : Sides L S K) : Type 0 where
      pub lanes : length b.lanes ≡ length a.lanes
      pub sources : length b.sources ≡ length a.sources
      pub sinks : length b.sinks ≡ length a.sinks
      pub each : (l : L) (s : S) (t : K) (k : ℕ) → k < length a.lanes → leads (side_at a l s t k) (side_at b l s t k)

-- what is lent to a feed over lanes: which borrows lead to it and to the blocks due, and all lanes, their sources and their sinks
pub record Lent (L S K : Type 0) : Type 0 where
  pub borrows : List ℕ
  pub sides : Sides L S K

abbrev pub lent : {L S K D : Type 0} → MutBor (List L) → MutBor (List S) → MutBor (List K) → MutBor D → Lent L S K
lent lanes sources sinks due = record {
  borrows = lanes.ghost_name ∷ sources.ghost_name ∷ sinks.ghost_name ∷ due.ghost_name ∷ [];
  sides = sides_of lanes.now sources.now sinks.now;
}

-- the same is lent, and each lane did what its own devices and its own blocks made it do
abbrev pub LentLead : {L S K : Type 0} → (Side L S K → Side L S K → Type 0) → Lent L S K → Lent L S K → Type 0
LentLead leads a b = (a.borrows ≡ b.borrows) × AllLead leads a.sides b.sides

-- a lane that is over gives no block any more
module _ {L : Type 0} (over : L → Bool) where
  -- the lanes from this one on are over
  abbrev pub AreOver : ℕ → List L → Type 0
  AreOver from lanes = (l : L) (k : ℕ) → from ≤ k → k < length lanes → over (slice_index_or lanes k l) ≡ true

-- no block of any lane is due
abbrev pub AreFresh : {L : Type 0} → (L → List (List JobView)) → List L → Type 0
AreFresh {L = L} due lanes = (l : L) (k : ℕ) → k < length lanes → due (slice_index_or lanes k l) ≡ []

-- lanes of which no block is due, each with a source and a sink of its own
pub record MayRun {L S K : Type 0} (due : L → List (List JobView)) (a : Sides L S K) : Type 0 where
  pub fresh : AreFresh due a.lanes
  pub sources : length a.sources ≡ length a.lanes
  pub sinks : length a.sinks ≡ length a.lanes

-- no lane that takes answers waits for one
abbrev pub HaveNone : {L : Type 0} → (L → List (List JobView)) → (L → Bool) → List L → Type 0
HaveNone {L = L} due rests lanes = (l : L) (k : ℕ) → k < length lanes → rests (slice_index_or lanes k l) ≡ false → due (slice_index_or lanes k l) ≡ []

-- each lane that takes answers keeps nothing back
abbrev pub AreFinished : {L : Type 0} → (L → Type 0) → (L → Bool) → List L → Type 0
AreFinished {L = L} finished rests lanes = (l : L) (k : ℕ) → k < length lanes → rests (slice_index_or lanes k l) ≡ false → finished (slice_index_or lanes k l)

-- these blocks of a lane are due
module _ {L : Type 0} (due : L → List (List JobView)) (over : L → Bool) where
  -- a lane is over, or may give as many jobs as are asked for
  abbrev pub HasFewDue : ℕ → L → Type 0
  HasFewDue most l = over l ≡ false → count_in (due l) + most ≤ 4096

  -- the same of each lane
  abbrev pub HaveFewDue : ℕ → List L → Type 0
  HaveFewDue most lanes = (l : L) (k : ℕ) → k < length lanes → HasFewDue most (slice_index_or lanes k l)

-- a lane that rests takes no answers any more
module _ {L : Type 0} (due : L → List (List JobView)) (rests : L → Bool) where
  -- what is due of each lane that takes answers is what that lane waits for
  abbrev pub AreBooked : List L → List DueOf → Type 0
  AreBooked lanes ring = (l : L) (k : ℕ) → k < length lanes → rests (slice_index_or lanes k l) ≡ false
      → due_at k ring ≡ due (slice_index_or lanes k l)

  -- what holds of lanes and of the blocks that are due
  pub record IsBooked (lanes : List L) (ring : List DueOf) : Type 0 where
    pub within : Within (length lanes) ring
    pub booked : AreBooked lanes ring

  -- lanes, with this number of sources and these blocks due, may be asked for a block of at most `most` jobs, behind the
  -- `given` jobs that all of them together have given
  pub record MayBeAsked (lanes : List L) (sources : ℕ) (ring : List DueOf) (most given : ℕ) : Type 0 where
    pub pairs : sources ≡ length lanes
    pub booked : IsBooked lanes ring
    pub asks : AsksFor most given
    pub few_due : count_in (whole_due ring) + most ≤ 4096

  -- a lane waits for the same blocks, and rests if it did
  abbrev pub SameBook : L → L → Type 0
  SameBook a b = (rests b ≡ rests a) × (due b ≡ due a)

  -- the same of each lane of two lists
  abbrev pub SameBooks : List L → List L → Type 0
  SameBooks a b = (l : L) (k : ℕ) → k < length a → SameBook (slice_index_or a k l) (slice_index_or b k l)

  -- the lane with this number waits for one block more, and no other does
  pub record OneMoreAt (a b : List L) (at : ℕ) (jobs : List JobView) : Type 0 where
    pub here : (l : L) → (rests (slice_index_or b at l) ≡ rests (slice_index_or a at l))
        × (due (slice_index_or b at l) ≡ due (slice_index_or a at l) ++ jobs ∷ [])
    pub others : (l : L) (k : ℕ) → k ≢ at → k < length a → SameBook (slice_index_or a k l) (slice_index_or b k l)

module _ {L : Type 0} (due : L → List (List JobView)) (rests over : L → Bool) where
  -- what holds of lanes, of the numbers of sources and sinks and of the blocks that are due; and where the feed has ended, all
  -- lanes are over
  pub record IsFeed (lanes : List L) (sources sinks : ℕ) (ring : List DueOf) (ended : Bool) : Type 0 where
    pub sources_are : sources ≡ length lanes
    pub sinks_are : sinks ≡ length lanes
    pub rings : IsBooked due rests lanes ring
    pub ends : ended ≡ true → AreOver over 0 lanes

-- What was answered where a block of at most `most` jobs was asked for, behind `given` jobs that all lanes together had given;
-- `block` is what of an answer is the block.
pub record AnswersLaneBlock {B E : Type 0} (block : B → LaneJobs) (most given : ℕ) (result : Result (Option B) E) : Type 0 where
  -- a block begins with the next number
  pub first : IfOk result (λ asked. IfSome asked (λ b. (block b).first ≡ given))
  -- it has a job, and no more than were asked for
  pub some : IfOk result (λ asked. IfSome asked (λ b. 1 ≤ length (block b).jobs))
  pub few : IfOk result (λ asked. IfSome asked (λ b. length (block b).jobs ≤ most))

-- the block of one lane, and the block beside the number of its lane
abbrev pub of_one : LaneJobs → LaneJobs
of_one block = block

abbrev pub of_several : ℕ × LaneJobs → LaneJobs
of_several asked = asked.1

-- What was answered where `count` lanes were asked in turn, beginning with lane `from`, until one gave a block: the number of
-- that lane and its block, or that none of them gives one any more. `ends` says of a lane, here as it is behind the call, that it
-- is over.
pub record AnswersInTurn {L E : Type 0} (ends : L → Bool) (count from most given : ℕ) (lanes : List L) (result : Result (Option (ℕ × LaneJobs)) E) : Type 0
  where
    -- the number is that of one of the lanes
    pub lane : IfOk result (λ asked. IfSome asked (λ a. a.0 < count))
    pub block : AnswersLaneBlock of_several most given result
    -- where no block came, each lane that was asked is over
    pub over : IfOk result (λ asked. IfNone asked (AreOver ends from lanes))

-- The next block of several lanes: what was answered, and which blocks were due before, and are due then.
pub record GivesNext {L E : Type 0} (ends : L → Bool) (count from most given : ℕ) (lanes : List L) (ring ring' : List DueOf)
    (result : Result (Option (ℕ × LaneJobs)) E) : Type 0 where
  pub answers : AnswersInTurn ends count from most given lanes result
  -- a block is due behind the others
  pub due : IfOk result (λ asked. IfSome asked (λ a. ring' ≡ ring ++ due_of a.0 a.1 ∷ []))
  -- where none came, or memory lacked, the same blocks are due
  pub none : IfOk result (λ asked. IfNone asked (ring' ≡ ring))
  pub memory : OnErr result (ring' ≡ ring)

-- What a run of lanes leaves of which none had given a block: all lanes with their sources and sinks, before and after, by what
-- the run answered. `does` is what one lane may do with its own devices, and `waits_for` which blocks it waits for the answers to.
-- A lane that `rests` takes no answers any more, one that is over by `ends` gives no blocks any more, and one that `keeps_none`
-- keeps nothing back of what is to be put.
module _ {L S K A E : Type 0} (does : Side L S K → Side L S K → Type 0) (waits_for : L → List (List JobView)) (rests ends : L → Bool)
    (keeps_none : L → Type 0) (result : Result A E) where
  pub record RunsLanes (a b : Sides L S K) : Type 0 where
    -- However the run ended, each lane did what its own devices and its own blocks made it do.
    pub leads : AllLead does a b
    -- Where memory sufficed, all lanes are over.
    pub over : OnOk result (AreOver ends 0 b.lanes)
    -- Those that don't rest have had all their answers, and have put all that came of them.
    pub none_due : OnOk result (HaveNone waits_for rests b.lanes)
    pub finished : OnOk result (AreFinished keeps_none rests b.lanes)
