-- A pool before its threads begin, and what it has done once they have ended.
use Rattle.std.specs.Prelude.{◌≡◌, ◌≤◌, ℕ, List, [], ◌∷◌, ◌++◌, length, map, sum, drop, vec_len, vec_capacity}
use Rattle.std.specs.List.{All, flat_map, sum_by}
use Rattle.crossbeam_queue.specs.Passes.{view as answer_view}
use Rattle.ht_list.specs.Counts.{SameCounts}
use Rattle.ht_pool.specs.Through.{through, first_of}
use Rattle.ht_pool.specs.Members.{workplace_of, workplaces, answered_weight, HasYetToServe}
use Rattle.ht_pool.specs.Gathering.{answered_by}
use Rattle.ht_pool.specs.Callers.{CallerView, unused}
use Rattle.ht_pool.specs.declared.pass_log.PassLog.{PassLog}
use Rattle.ht_pool.specs.declared.member.Member.{Member}
use Rattle.ht_pool.specs.declared.space.Space.{Space}
use Rattle.ht_pool.specs.declared.pool.Pool.{Pool}
use Rattle.ht_pool.specs.declared.closed.Closed.{Closed}

module _ {T : Type 0} where
  -- room for this number of workers, and nothing is there
  pub record IsVacant (workers : ℕ) (s : Space T) : Type 0 where
    pub ran : (s.ran.items ≡ []) × (workers ≤ vec_capacity s.ran)
    pub owners : (s.owners.items ≡ []) × (workers ≤ vec_capacity s.owners)
    pub rows : (s.rows.items ≡ []) × (workers ≤ vec_capacity s.rows)
    pub deques : (s.deques.items ≡ []) × (workers ≤ vec_capacity s.deques)

  -- all that was taken on these deques
  abbrev pub taken_on : List (PassLog T) → List T
  taken_on logs = flat_map (λ (v : PassLog T). v.taken) logs

  -- what was pushed on the deques other than the first, the caller's
  abbrev pub moved_on : List (PassLog T) → List T
  moved_on logs = flat_map (λ (v : PassLog T). v.pushed) (drop 1 logs)

  -- what was pushed was taken, each as often, so nothing is left
  abbrev pub IsEmptied : PassLog T → Type 0
  IsEmptied v = SameCounts v.taken v.pushed

module _ {T A : Type 0} where
  -- a pool whose deques have this capacity
  pub record IsOpened (capacity : ℕ) (p : Pool T A) : Type 0 where
    pub caller_end : p.caller_end ≡ unused capacity p.caller_end.deques p.shared
    pub fresh : All (HasYetToServe p.shared) p.members.items
    pub workplaces_are : map workplace_of p.members.items ≡ workplaces p.caller_end.deques
    pub takers : vec_len p.members ≤ vec_capacity p.members
    pub space : IsVacant (length p.caller_end.deques) p.space

  -- what went through the deques, the caller's first, and through the queue of answers
  abbrev pub through_deques : Closed T A → List (PassLog T)
  through_deques c = map through c.deques.items

  abbrev pub through_queue : Closed T A → PassLog A
  through_queue c = answer_view c.pass

  -- what was done, where the caller's end is as the caller left it
  pub record HasRun (asked : A → T) (weight : T → ℕ) (caller : CallerView T A) (helpers : List (Member T A)) (c : Closed T A) : Type 0 where
    -- there is a deque for each worker
    pub deques : length c.deques.items ≡ length caller.deques
    -- the tasks that were pushed on the caller's are those that were given
    pub pushed : (first_of (through_deques c)).pushed ≡ caller.given
    -- none is left on any
    pub emptied : All IsEmptied (through_deques c)
    -- the tasks run, which are those taken less those moved on, are those that were given, each once
    pub taken : SameCounts (taken_on (through_deques c)) (caller.given ++ moved_on (through_deques c))
    -- each was run once, by the caller or by a worker, who pushed its answer
    pub each_once : SameCounts (caller.taken ++ map asked (through_queue c).pushed) caller.given
    pub delivered : (through_queue c).pushed ≡ answered_by helpers
    -- all answers were received
    pub received : (through_queue c).taken ≡ caller.answers
    pub answers : SameCounts (through_queue c).taken (through_queue c).pushed
    -- how much was in the tasks that each has run and, beside the caller, answered; the caller first
    pub each : length c.ran.items ≡ length caller.deques
    pub numbers : c.ran.items ≡ sum_by weight caller.taken ∷ map (answered_weight asked weight) helpers
    pub ran : sum c.ran.items ≡ sum_by weight caller.given
