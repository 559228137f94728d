-- What is seen of the ends of a deque.
use Rattle.std.specs.Prelude.{◌≡◌, ◌+◌, ◌++◌, ◌∷◌, [], ℕ, List, Option, map}
use Rattle.std.specs.List.{flat_map, sum_by}
use Rattle.std.specs.Option.{option_to_list}
use Rattle.std.specs.declared.alloc.Global.{Global}
use Rattle.atomic_blocks.specs.Lent.{RowsId}
use Rattle.crossbeam_deque.specs.Handles.{Pass, view, IsPassOf}
use Rattle.ht_pool.specs.declared.pass_log.PassLog.{PassLog}

-- which deque it is
abbrev pub DequeId : Type 0
DequeId = RowsId × Global

-- a pass of a thief on this deque
pub record IsThiefs {T : Type 0} (deque : DequeId) (p : Pass T (PassLog T) Global) : Type 0 where
  pub on_deque : IsPassOf deque p
  pub part : (view p).parts ≡ 1
  pub none_pushed : (view p).pushed ≡ []

-- a pass on this deque with which nothing was pushed or taken
pub record IsSpent {T : Type 0} (deque : DequeId) (p : Pass T (PassLog T) Global) : Type 0 where
  pub on_deque : IsPassOf deque p
  pub none_pushed : (view p).pushed ≡ []
  pub none_taken : (view p).taken ≡ []

-- a thief: its deque, and the tasks that it took there, in order
pub record TakerView (T : Type 0) : Type 0 where
  pub at : DequeId
  pub taken : List T

-- the owner's end of a deque: for how many tasks it has room for sure, how many of the 1024 parts of the right to know the whole it has, and
-- the tasks that it pushed and took, in order
pub record OwnView (T : Type 0) : Type 0 where
  pub deque : DequeId
  pub capacity : ℕ
  pub parts : ℕ
  pub pushed : List T
  pub taken : List T

module _ {T : Type 0} where
  -- nothing was taken yet
  abbrev pub fresh_taker : DequeId → TakerView T
  fresh_taker deque = record { at = deque; taken = [] }

  -- one more task was taken
  abbrev pub stole : TakerView T → T → TakerView T
  stole taker task = record { at = taker.at; taken = taker.taken ++ task ∷ [] }

  -- nothing was pushed or taken yet, and this number of parts is left
  abbrev pub fresh_own : ℕ → ℕ → DequeId → OwnView T
  fresh_own parts capacity deque = record { deque = deque; capacity = capacity; parts = parts; pushed = []; taken = [] }

  -- one more task was pushed
  abbrev pub pushed_on : OwnView T → T → OwnView T
  pushed_on own task = record own { pushed = own.pushed ++ task ∷ [] }

  -- one more task was taken
  abbrev pub popped_from : OwnView T → T → OwnView T
  popped_from own task = record own { taken = own.taken ++ task ∷ [] }

  -- a taker at the deque was joined into its owner's end
  abbrev pub took_in : OwnView T → TakerView T → OwnView T
  took_in own taker = record own { parts = own.parts + 1; taken = own.taken ++ taker.taken }

  -- which deques these takers are at
  abbrev pub deques_at : List (TakerView T) → List DequeId
  deques_at takers = map (λ (s : TakerView T). s.at) takers

  -- all that was taken at these takers
  abbrev pub taken_at : List (TakerView T) → List T
  taken_at takers = flat_map (λ (s : TakerView T). s.taken) takers

  -- one thread took this task, or none, at its takers, and nothing else
  pub record Steals (takers takers' : List (TakerView T)) (task : Option T) : Type 0 where
    pub at : deques_at takers' ≡ deques_at takers
    pub took : (h : T → ℕ) → sum_by h (taken_at takers') ≡ sum_by h (taken_at takers) + sum_by h (option_to_list task)

  -- one thread took tasks at its takers and from its own deque, and pushed all of them on its own deque again but this task, if there is one
  pub record Gets (takers : List (TakerView T)) (own : OwnView T) (takers' : List (TakerView T)) (own' : OwnView T) (task : Option T) : Type 0 where
    pub at : deques_at takers' ≡ deques_at takers
    pub deque_is : own'.deque ≡ own.deque
    pub parts_are : own'.parts ≡ own.parts
    pub got : (h : T → ℕ) → sum_by h own'.taken + sum_by h (taken_at takers') + sum_by h own.pushed
        ≡ sum_by h own.taken + sum_by h (taken_at takers) + sum_by h own'.pushed + sum_by h (option_to_list task)
