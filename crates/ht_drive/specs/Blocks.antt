-- Blocks as the tasks of a pool, and in the window of a drive.
use Rattle.std.specs.Prelude.{◌≡◌, ◌≢◌, ◌⊎◌, ◌+◌, ◌-◌, ◌%◌, ◌<◌, ◌≤◌, ◌^◌, ℕ, List, [], ◌∷◌, ◌++◌, length, slice_get, Bool, true, false, if◌then◌else◌}
use Rattle.std.specs.Prelude.{Option, Some, None, IfSome, IsSome}
use Rattle.std.specs.Option.{is_some}
use Rattle.std.specs.List.{sum_by}
use Rattle.ht_metric.specs.Jobs.{JobView}
use Rattle.ht_feed.specs.Dues.{NoneEmpty, count_in}
use Rattle.atomic_table.specs.Seated.{TableId}
use Rattle.ht_pool.specs.Callers.{CallerView, IsSameCaller as IsSamePool}
use Rattle.ht_pool.specs.Takers.{DequeId}

-- how many jobs a block has
abbrev pub jobs_in : List JobView → ℕ
jobs_in jobs = length jobs

-- what came of a block that was run: its jobs, and whether the work has answered, which lacks memory where it hasn't
pub record RunBlock : Type 0 where
  pub jobs : List JobView
  pub answered : Bool

abbrev pub run_block : List JobView → Bool → RunBlock
run_block jobs answered = record { jobs = jobs; answered = answered }

-- the block that was run
abbrev pub task_of : RunBlock → List JobView
task_of run = run.jobs

-- how many of these blocks came back without an answer
abbrev pub lacks : RunBlock → ℕ
lacks run = if run.answered then 0 else 1

abbrev pub lacking : List RunBlock → ℕ
lacking runs = sum_by lacks runs

-- how many these blocks have
abbrev pub jobs_of : List (List JobView) → ℕ
jobs_of blocks = sum_by jobs_in blocks

-- as many jobs as a block may have
pub record IsBlock (jobs : List JobView) : Type 0 where
  pub some : 1 ≤ length jobs
  pub few : length jobs < 2 ^ 16

-- how many jobs blocks have that were run
abbrev pub jobs_run : List RunBlock → ℕ
jobs_run runs = sum_by (λ (run : RunBlock). length run.jobs) runs

-- the end of a pool at which blocks are given and come back
abbrev pub BlockPool : Type 0
BlockPool = CallerView (List JobView) RunBlock

-- the caller's end of a pool that runs blocks
pub record BlockCaller : Type 0 where
  -- this number of blocks can be given for sure
  pub capacity : ℕ
  -- a deque for each worker, the caller's first, and the queue of what came of blocks
  pub deques : List DequeId
  pub queue : TableId
  -- the blocks that were given, those that were taken back and run, and what was received of the others, in order
  pub given : List (List JobView)
  pub taken : List (List JobView)
  pub answers : List RunBlock
  -- whether all that came back, of blocks taken back too, were answered
  pub whole : Bool

abbrev pub caller_of : BlockPool → Bool → BlockCaller
caller_of pool whole = record {
  capacity = pool.capacity;
  deques = pool.deques;
  queue = pool.queue;
  given = pool.given;
  taken = pool.taken;
  answers = pool.answers;
  whole = whole;
}

abbrev pub pool_of : BlockCaller → BlockPool
pool_of caller = record {
  capacity = caller.capacity;
  deques = caller.deques;
  queue = caller.queue;
  given = caller.given;
  taken = caller.taken;
  answers = caller.answers;
}

-- one more block was given
abbrev pub gave : BlockCaller → List JobView → BlockCaller
gave caller jobs = record caller { given = caller.given ++ jobs ∷ [] }

-- as many blocks were taken back or received as were given
abbrev pub IsSettled : BlockCaller → Type 0
IsSettled caller = length caller.given ≤ length caller.taken + length caller.answers

-- it is the same caller, of the same pool
pub record IsSameCaller (old new : BlockCaller) : Type 0 where
  pub capacity_is : new.capacity ≡ old.capacity
  pub deques_are : new.deques ≡ old.deques
  pub queue_is : new.queue ≡ old.queue

-- a block that is out is one of those that were given, and each of the others has come back, with its answer where all did
pub record CountsOut (out : ℕ) (caller : BlockCaller) : Type 0 where
  pub back : length caller.given ≤ out + (length caller.taken + length caller.answers)
  pub few : out ≤ length caller.given
  pub answered : caller.whole ≡ true → lacking caller.answers ≡ 0

-- one block more has come back, of which this came
pub record ComesBack (old new : BlockPool) (run : RunBlock) : Type 0 where
  pub same : IsSamePool old new
  pub given_are : new.given ≡ old.given
  pub one : length new.taken + length new.answers ≡ length old.taken + length old.answers + 1
  pub answered : lacking new.answers ≤ lacking old.answers + lacks run

-- the number of jobs for which a window has room in all, and the jobs of its blocks, in order
pub record BlockWindow : Type 0 where
  pub capacity : ℕ
  pub due : List (List JobView)

abbrev pub block_window : ℕ → List (List JobView) → BlockWindow
block_window capacity due = record { capacity = capacity; due = due }

-- what holds of every window with this number of slots, whose jobs are counted in `held`
pub record IsBlockWindow (places held : ℕ) (w : BlockWindow) : Type 0 where
  pub held_is : held ≡ count_in w.due
  pub room : held ≤ w.capacity
  pub places_are : places ≡ w.capacity
  pub some : 1 ≤ w.capacity
  pub few : w.capacity ≤ 4096
  pub full : NoneEmpty w.due

-- a block that is due, and the answer to it once that has come
pub record SlotOf (B A : Type 0) : Type 0 where
  pub block : B
  pub answer : Option A

abbrev pub slot_of : {B A : Type 0} → B → Option A → SlotOf B A
slot_of block answer = record { block = block; answer = answer }

-- what a drive keeps of the blocks that are due, in order: the number of jobs for which it has room in all, the place of the
-- first block in the order of all, and a slot for each
pub record WindowOf (B A : Type 0) : Type 0 where
  pub capacity : ℕ
  pub front : ℕ
  pub slots : List (SlotOf B A)

abbrev pub window_of : {B A : Type 0} → ℕ → ℕ → List (SlotOf B A) → WindowOf B A
window_of capacity front slots = record { capacity = capacity; front = front; slots = slots }

module _ {B A : Type 0} (jobs : B → List JobView) where
  -- the jobs of each block
  abbrev pub due_in : List (SlotOf B A) → List (List JobView)
  due_in [] = []
  due_in (slot ∷ slots) = jobs slot.block ∷ due_in slots

  -- what a feed has to do with of a window
  abbrev pub seen : WindowOf B A → BlockWindow
  seen w = block_window w.capacity (due_in w.slots)

-- how many blocks are in front of the one of this place, where the first has the place `front`: places go round
abbrev pub behind : ℕ → ℕ → ℕ
behind front place = (place + (2 ^ 64 - front)) % 2 ^ 64

-- the first block has its answer
abbrev pub first_answered : {B A : Type 0} → List (SlotOf B A) → Bool
first_answered [] = false
first_answered (slot ∷ slots) = is_some slot.answer

module _ {B A : Type 0} (Alike : B → B → Type 0) where
  -- A block has come back with its answer to a slot. That keeps it where it waits and its block is alike, and stays as it is
  -- where it has an answer; where the blocks aren't alike it may do either.
  pub record Books (ran : B) (came : A) (old new : SlotOf B A) : Type 0 where
    pub block : new.block ≡ old.block
    pub kept : old.answer ≡ None → Alike old.block ran → new.answer ≡ Some came
    pub stays : IsSome old.answer → new.answer ≡ old.answer
    pub either : (new.answer ≡ old.answer) ⊎ (new.answer ≡ Some came)

  -- it has come to the slot that has this number of others before it, and all others stay
  pub record BooksAt (at : ℕ) (ran : B) (came : A) (old new : List (SlotOf B A)) : Type 0 where
    pub books : (slot : SlotOf B A) → slice_get old at ≡ Some slot → IfSome (slice_get new at) (Books ran came slot)
    pub others : (k : ℕ) → k ≢ at → slice_get new k ≡ slice_get old k
    pub length_is : length new ≡ length old
