-- What is said of the last lines of several captures.
use Rattle.std.specs.Prelude.{◌≡◌, ◌≢◌, ◌⊎◌, ℕ, ◌<◌, List, length, slice_index_or, Result, IfOk, OnErr}
use Rattle.std.specs.Global.{Vec}
use Rattle.ht_io.specs.Devices.{Device, IsLater}
use Rattle.ht_runs.specs.declared.faults.RunFault.{RunFault}
use Rattle.ht_feed.specs.declared.ended.Ended.{Ended}
use Rattle.ht_many.specs.declared.many_end.ManyEnd.{ManyEnd}
use Rattle.ht_many.specs.declared.many_end.ManyEnd.TheVariants.{Write}
use Rattle.ht_many.specs.Alone.{FinishesCapture}
use Rattle.ht_many.specs.Several.{answer_at, end_at}

-- the sinks of several captures, which are seen so, before and after
module _ {K : Type 0} (sink : K → Device ℕ) (before after : List K) where
  -- they are the same devices at a later time
  pub record KeepSinks : Type 0 where
    pub as_many : length after ≡ length before
    pub puts : (k : ℕ) (t : K) → IsLater (sink (slice_index_or before k t)) (sink (slice_index_or after k t))

  -- receiving answered so of each
  module _ (answers : List (Result Ended RunFault)) where
    -- the capture with this number ended so, with its last line
    abbrev pub FinishesAt : ℕ → ManyEnd → Type 0
    FinishesAt k end = (t : K) → FinishesCapture (answer_at answers k) (sink (slice_index_or before k t)) (sink (slice_index_or after k t)) end

    -- each capture ended so; where that isn't Write its sink didn't fail
    pub record EachFinishes (ends : List ManyEnd) : Type 0 where
      pub as_many : length ends ≡ length answers
      pub each : (k : ℕ) → k < length answers → FinishesAt k (end_at ends k)
      pub writes : (k : ℕ) (t : K) → end_at ends k ≢ Write → (sink (slice_index_or after k t)).faults ≡ (sink (slice_index_or before k t)).faults

    -- the capture with this number ended somehow, or nothing was put
    abbrev pub MayFinish : ℕ → Type 0
    MayFinish k = (t : K) → ((end : ManyEnd) × FinishesCapture (answer_at answers k) (sink (slice_index_or before k t)) (sink (slice_index_or after k t)) end)
        ⊎ (slice_index_or after k t ≡ slice_index_or before k t)

    -- the same of each capture
    abbrev pub EachMayFinish : Type 0
    EachMayFinish = (k : ℕ) → k < length answers → MayFinish k

    -- A call put the last lines, and answered how each capture ended.
    pub record FinishesEach {E : Type 0} (result : Result (Vec ManyEnd) E) : Type 0 where
      pub finishes : IfOk result (λ ends. EachFinishes ends.items)
      -- where memory ran out, some captures have their last line, each whole or, where its sink failed, in part
      pub memory : OnErr result EachMayFinish
      pub later : KeepSinks
