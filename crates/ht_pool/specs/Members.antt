-- What is known of a worker before its thread begins, and once it has ended.
use Rattle.std.specs.Prelude.{◌≡◌, ◌++◌, ◌-◌, ◌≤◌, ℕ, List, [], length, map, drop, Option}
use Rattle.std.specs.List.{All, sum_by}
use Rattle.atomic_table.specs.Seated.{TableId}
use Rattle.crossbeam_queue.specs.Passes.{Pass, view as answer_view}
use Rattle.crossbeam_queue.specs.declared.array_queue.Doing.{Doing}
use Rattle.crossbeam_queue.specs.declared.array_queue.Slotted.{Slotted}
use Rattle.ht_list.specs.Counts.{SameCounts}
use Rattle.ht_pool.specs.Takers.{DequeId, TakerView, OwnView, deques_at, taken_at}
use Rattle.ht_pool.specs.declared.pass_log.PassLog.{PassLog}
use Rattle.ht_pool.specs.declared.member.Member.{Member}

-- which queue it is
abbrev pub queue_of : {A V Q H : Type 0} → Slotted (Option A) (Doing A V) Q H → TableId
queue_of q = q.table.shared.table_id

-- a pass on this queue
abbrev pub IsOnQueue : {A V : Type 0} → TableId → Pass A V → Type 0
IsOnQueue queue p = (p.table_id ≡ queue) × (p.me.1 ≡ [])

-- where a worker works: its own deque, how many of the 1024 parts of the right to know this whole deque it has, and the deques that it has takers at
pub record Workplace : Type 0 where
  pub deque : DequeId
  pub parts : ℕ
  pub at : List DequeId

-- with takers of this number of threads at each deque
abbrev pub workplace : List DequeId → DequeId → Workplace
workplace deques own = record { deque = own; parts = 1024 - length deques; at = deques }

-- the workplaces of all workers but the caller, whose deque is the first
abbrev pub workplaces : List DequeId → List Workplace
workplaces deques = map (workplace deques) (drop 1 deques)

-- counted with repeats, what was taken at these takers and from one's own deque is what was moved on and what the answers are to
abbrev pub Balances : {T A : Type 0} → (A → T) → List (TakerView T) → OwnView T → List A → Type 0
Balances asked takers own answers = SameCounts (own.taken ++ taken_at takers) (own.pushed ++ map asked answers)

module _ {T A : Type 0} where
  abbrev pub workplace_of : Member T A → Workplace
  workplace_of m = record { deque = m.own.deque; parts = m.own.parts; at = deques_at m.takers.items }

  -- the tasks that a worker has taken, on all deques
  abbrev pub tasks_of : Member T A → List T
  tasks_of m = m.own.taken ++ taken_at m.takers.items

  -- what went through a worker's pass on the queue of answers
  abbrev pub answers_of : Member T A → PassLog A
  answers_of m = answer_view m.pass

  -- its answers go to this queue
  pub record AnswersTo (queue : TableId) (m : Member T A) : Type 0 where
    pub to : IsOnQueue queue m.pass
    pub part : (answers_of m).parts ≡ 1
    pub none_received : (answers_of m).taken ≡ []

  -- a worker that has not begun
  pub record HasYetToServe (queue : TableId) (m : Member T A) : Type 0 where
    pub answers : AnswersTo queue m
    pub none_moved : m.own.pushed ≡ []
    pub none_taken : tasks_of m ≡ []
    pub none_given : (answers_of m).pushed ≡ []
    pub few : length m.takers.items ≤ 64

  -- how much is in the tasks that a worker has answered
  abbrev pub answered_weight : (A → T) → (T → ℕ) → Member T A → ℕ
  answered_weight asked weight m = sum_by weight (map asked (answers_of m).pushed)

  -- a worker that has ended, which has counted what it answered
  pub record HasServed (asked : A → T) (weight : T → ℕ) (queue : TableId) (m : Member T A) : Type 0 where
    pub answers : AnswersTo queue m
    pub balanced : Balances asked m.takers.items m.own (answers_of m).pushed
    pub ran : m.ran ≡ answered_weight asked weight m

  -- the workers have ended, each at its own workplace
  pub record HaveServed (asked : A → T) (weight : T → ℕ) (queue : TableId) (before after : List (Member T A)) : Type 0 where
    pub served : All (HasServed asked weight queue) after
    pub workplaces_are : map workplace_of after ≡ map workplace_of before
