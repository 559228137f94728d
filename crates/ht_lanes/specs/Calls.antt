-- What a call of one lane leaves, whoever makes it.
use Rattle.std.specs.Prelude.{◌≡◌, List, [], ◌∷◌, ◌++◌, drop, Option, Bool, true, false, Result, IfNone, IfOk, IfSome, OnErr, OnOk}
use Rattle.ht_metric.specs.Jobs.{JobView}

-- The blocks whose answers a lane waits for. A lane that rests takes no answers any more, and one that is over gives no blocks any
-- more.
module _ {L : Type 0} (due : L → List (List JobView)) (rests over : L → Bool) where
  -- a lane was asked for a block, and this was answered; `jobs` are those of a block
  pub record GivesLaneBlock {B E : Type 0} (jobs : B → List JobView) (old new : L) (result : Result (Option B) E) : Type 0 where
    -- it waits for the answer to the block, behind the others
    pub given : IfOk result (λ asked. IfSome asked (λ block. due new ≡ due old ++ jobs block ∷ []))
    -- where none came it is over
    pub none : IfOk result (λ asked. IfNone asked (due new ≡ due old))
    pub ended : IfOk result (λ asked. IfNone asked (over new ≡ true))
    pub memory : OnErr result (due new ≡ due old)
    -- it takes answers as before
    pub takes : rests new ≡ rests old

  -- a lane was handed the answer to the first block that it waits for, or rested; this was answered
  pub record SettlesLane {A E : Type 0} (old new : L) (result : Result A E) : Type 0 where
    -- it waits for that answer no longer, or rests from now on, as it does without memory
    pub taken : OnOk result (rests new ≡ false → due new ≡ drop 1 (due old))
    pub memory : OnErr result (rests new ≡ true)
    -- it neither wakes up nor gives blocks again
    pub takes : rests new ≡ false → rests old ≡ false
    pub ended : over old ≡ true → over new ≡ true

  -- A lane put what it kept back, unless it rests; one that `keeps_none` keeps nothing back.
  pub record FinishesLane (keeps_none : L → Type 0) (old new : L) : Type 0 where
    pub finished : rests new ≡ false → keeps_none new
    -- it waits for the same answers
    pub waits : due new ≡ due old
    -- it neither wakes up nor gives blocks again
    pub takes : rests new ≡ false → rests old ≡ false
    pub ended : over old ≡ true → over new ≡ true
