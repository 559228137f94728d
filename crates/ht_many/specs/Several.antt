-- What is said of several captures, one by one.
use Rattle.std.specs.Prelude.{◌≡◌, ◌≢◌, ℕ, ◌<◌, List, length, slice_index_or, Result, Err}
use Rattle.ht_io.specs.Devices.{Device, IsLater}
use Rattle.ht_runs.specs.declared.faults.RunFault.{RunFault}
use Rattle.ht_runs.specs.declared.faults.RunFault.TheVariants.{Read as RunRead, Write as RunWrite}
use Rattle.ht_feed.specs.declared.ended.Ended.{Ended}
use Rattle.ht_many.specs.declared.many_end.ManyEnd.{ManyEnd}
use Rattle.ht_many.specs.declared.many_end.ManyEnd.TheVariants.{Read, Write}
use Rattle.ht_many.specs.Alone.{Alone, Heard, PutsPieces}

-- the sources and the sinks of several captures at one moment
pub record Devices (S K : Type 0) : Type 0 where
  pub sources : List S
  pub sinks : List K

abbrev pub devices : {S K : Type 0} → List S → List K → Devices S K
devices sources sinks = record { sources = sources; sinks = sinks }

-- the source and the sink of the capture with this number, as the devices that contracts see
abbrev pub source_at : {S K : Type 0} → (S → Device ℕ) → Devices S K → ℕ → S → Device ℕ
source_at source d k none = source (slice_index_or d.sources k none)

abbrev pub sink_at : {S K : Type 0} → (K → Device ℕ) → Devices S K → ℕ → K → Device ℕ
sink_at sink d k none = sink (slice_index_or d.sinks k none)

-- what the receiving of the capture with this number answered
abbrev pub answer_at : List (Result Ended RunFault) → ℕ → Result Ended RunFault
answer_at answers k = slice_index_or answers k (Err RunRead)

-- how the capture with this number ended
abbrev pub end_at : List ManyEnd → ℕ → ManyEnd
end_at ends k = slice_index_or ends k Read

-- how contracts see a source and a sink; from one moment to a later one
module _ {S K : Type 0} (source : S → Device ℕ) (sink : K → Device ℕ) (a b : Devices S K) where
  -- the capture with this number ended so
  abbrev pub EndsAlone : ℕ → ManyEnd → Type 0
  EndsAlone k end = (s : S) (t : K) → Alone (source_at source a k s) (source_at source b k s) (sink_at sink a k t) (sink_at sink b k t) end

  -- its sink didn't fail, where it ended so and not with Write
  abbrev pub EndsSteady : ℕ → ManyEnd → Type 0
  EndsSteady k end = (t : K) → end ≢ Write → (sink_at sink b k t).faults ≡ (sink_at sink a k t).faults

  -- a part of its text was put
  abbrev pub EndsInPart : ℕ → Type 0
  EndsInPart k = (s : S) (t : K) → PutsPieces (source_at source a k s) (source_at source b k s) (sink_at sink a k t) (sink_at sink b k t)

  -- they are the same devices at a later time
  pub record AreLater : Type 0 where
    pub sources : length b.sources ≡ length a.sources
    pub sinks : length b.sinks ≡ length a.sinks
    pub reads : (k : ℕ) (s : S) → IsLater (source_at source a k s) (source_at source b k s)
    pub puts : (k : ℕ) (t : K) → IsLater (sink_at sink a k t) (sink_at sink b k t)

  -- each capture ended so
  pub record EachEnds (ends : List ManyEnd) : Type 0 where
    pub as_many : length ends ≡ length a.sources
    pub each : (k : ℕ) → k < length a.sources → EndsAlone k (end_at ends k)
    pub writes : (k : ℕ) → EndsSteady k (end_at ends k)

  -- of the text of each a part was put
  abbrev pub EachInPart : Type 0
  EachInPart = (k : ℕ) → k < length a.sources → EndsInPart k

  -- the lines of the frames of each capture were put, but not its last line, and this was answered; where it isn't Write
  -- its sink didn't fail
  pub record EachHeard (answers : List (Result Ended RunFault)) : Type 0 where
    pub as_many : length answers ≡ length a.sources
    pub each : (k : ℕ) → k < length a.sources → (s : S) (t : K)
        → Heard (source_at source a k s) (source_at source b k s) (sink_at sink a k t) (sink_at sink b k t) (answer_at answers k)
    pub writes : (k : ℕ) (t : K) → answer_at answers k ≢ Err RunWrite → (sink_at sink b k t).faults ≡ (sink_at sink a k t).faults
