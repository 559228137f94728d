-- What is seen of the caller's end of a pool.
use Rattle.std.specs.Prelude.{◌≡◌, ◌+◌, ◌≤◌, ℕ, List, [], ◌∷◌, ◌++◌, length}
use Rattle.atomic_table.specs.Seated.{TableId}
use Rattle.ht_list.specs.Counts.{SameCounts}
use Rattle.ht_pool.specs.Takers.{DequeId, TakerView, OwnView, deques_at, taken_at}

-- the caller's end of a pool
pub record CallerView (T A : Type 0) : Type 0 where
  -- this number of tasks can be given for sure
  pub capacity : ℕ
  -- a deque for each worker, the caller's first, and the queue of answers
  pub deques : List DequeId
  pub queue : TableId
  -- the tasks that were given, in order
  pub given : List T
  -- the tasks that were taken back and run
  pub taken : List T
  -- the answers that were received, in order
  pub answers : List A

module _ {T A : Type 0} where
  -- a caller with this end of its own deque and these takers, who received these answers
  abbrev pub caller_view : OwnView T → List (TakerView T) → TableId → List A → CallerView T A
  caller_view own takers queue answers = record {
    capacity = own.capacity;
    deques = deques_at takers;
    queue = queue;
    given = own.pushed;
    taken = own.taken ++ taken_at takers;
    answers = answers;
  }

  -- nothing was given yet
  abbrev pub unused : ℕ → List DequeId → TableId → CallerView T A
  unused capacity deques queue = record { capacity = capacity; deques = deques; queue = queue; given = []; taken = []; answers = [] }

  -- one more task was given
  abbrev pub gave : CallerView T A → T → CallerView T A
  gave caller task = record caller { given = caller.given ++ task ∷ [] }

  -- one more answer was received
  abbrev pub received : CallerView T A → A → CallerView T A
  received caller answer = record caller { answers = caller.answers ++ answer ∷ [] }

  -- as many tasks were taken back or answered as were given
  abbrev pub IsSettled : CallerView T A → Type 0
  IsSettled caller = length caller.given ≤ length caller.taken + length caller.answers

  -- it is the same caller, of the same pool
  pub record IsSameCaller (old new : CallerView T A) : Type 0 where
    pub capacity_is : new.capacity ≡ old.capacity
    pub deques_are : new.deques ≡ old.deques
    pub queue_is : new.queue ≡ old.queue

  -- one more task was taken back
  pub record TakesBack (old new : CallerView T A) (task : T) : Type 0 where
    pub same : IsSameCaller old new
    pub given_is : new.given ≡ old.given
    pub took : SameCounts new.taken (old.taken ++ task ∷ [])
    pub longer : length new.taken ≡ length old.taken + 1
    pub answers_are : new.answers ≡ old.answers
