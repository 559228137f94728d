-- The takers and passes of the workers that have ended are joined, one worker after another.
use Rattle.std.specs.Prelude.{◌≡◌, ◌+◌, ◌++◌, List, [], ◌∷◌, length, map}
use Rattle.std.specs.Global.{Vec}
use Rattle.std.specs.List.{flat_map}
use Rattle.ht_pool.specs.PassLogs.{pass_log, AddsUp}
use Rattle.ht_pool.specs.Takers.{TakerView, OwnView, took_in}
use Rattle.ht_pool.specs.Members.{answers_of}
use Rattle.ht_pool.specs.declared.pass_log.PassLog.{PassLog}
use Rattle.ht_pool.specs.declared.member.Member.{Member}

module _ {T : Type 0} where
  -- the takers of each thread
  abbrev pub rows_of : List (Vec (TakerView T)) → List (List (TakerView T))
  rows_of rows = map (λ (takers : Vec (TakerView T)). takers.items) rows

  -- one thread's takers are joined into the owners' ends, deque by deque
  abbrev pub joined_row : List (OwnView T) → List (TakerView T) → List (OwnView T)
  joined_row [] takers = []
  joined_row (own ∷ owners) [] = own ∷ owners
  joined_row (own ∷ owners) (taker ∷ takers) = took_in own taker ∷ joined_row owners takers

  -- the takers of all threads
  abbrev pub joined_rows : List (OwnView T) → List (List (TakerView T)) → List (OwnView T)
  joined_rows owners [] = owners
  joined_rows owners (takers ∷ rows) = joined_row (joined_rows owners rows) takers

  -- what went through a deque that is closed
  abbrev pub ended : OwnView T → PassLog T
  ended own = pass_log 1023 own.pushed own.taken

  -- what was pushed is what was taken and something that is held
  abbrev pub IsAccounted : PassLog T → Type 0
  IsAccounted v = (held : List T) × AddsUp v held

module _ {T A : Type 0} where
  -- the answers of some workers
  abbrev pub answered_by : List (Member T A) → List A
  answered_by members = flat_map (λ (m : Member T A). (answers_of m).pushed) members

  -- the caller's pass on the queue of answers, once the passes of these workers are joined into it
  pub record Collects (before after : PassLog A) (members : List (Member T A)) : Type 0 where
    pub parts : after.parts ≡ before.parts + length members
    pub pushed : after.pushed ≡ before.pushed ++ answered_by members
    pub taken : after.taken ≡ before.taken
