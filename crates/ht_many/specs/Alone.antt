-- What is said of one capture among several: its own source and its own sink, before and after, and nothing of another capture.
use Rattle.std.specs.Prelude.{◌≡◌, ◌≢◌, ◌<◌, ℕ, List, length, slice_index_or, Result, Ok, Err, IfOk, OnErr, MatchResult}
use Rattle.ht_io.specs.Devices.{Device, IsLater, Rose}
use Rattle.ht_capture.specs.Fields.{captures}
use Rattle.ht_results.specs.Texts.{HasFrames, frame_lines_of, rx_text}
use Rattle.ht_runs.specs.Outcomes.{TellsBroken, TellsPieces, TellsRefused, TellsWhole}
use Rattle.ht_runs.specs.declared.faults.RunFault.{RunFault}
use Rattle.ht_runs.specs.declared.faults.RunFault.TheVariants.{Format, Read as RunRead, Write as RunWrite, NoMemory as RunMemory}
use Rattle.ht_feed.specs.declared.ended.Ended.{Ended}
use Rattle.ht_receive.specs.Endings.{PutsLast}
use Rattle.ht_rx.specs.Outcomes.{StopsBy, TellsTo}
use Rattle.ht_many.specs.declared.many_end.ManyEnd.{ManyEnd}
use Rattle.ht_many.specs.declared.many_end.ManyEnd.TheVariants.{Done, Refused, Read, Write}

-- what a run over the capture alone answers that ends so
abbrev pub answer_of : ManyEnd → Result ℕ RunFault
answer_of (Done frames) = Ok frames
answer_of (Refused fault) = Err (Format fault)
answer_of Read = Err RunRead
answer_of Write = Err RunWrite

-- the source of a capture, and the sink that its text is put into, before and after
module _ (source source' sink sink' : Device ℕ) where
  -- a part of the text of what was taken was put
  abbrev pub PutsPieces : Type 0
  PutsPieces = TellsPieces captures rx_text source source' sink sink'

  -- What an answer says. A number: all octets that were left are a capture of so many frames, and its text was put. A fault: the
  -- octets taken end with it, the first one, and their text was put, the line of the fault at its end. Read: the source failed
  -- behind a capture or a front of one, and the lines of its whole frames were put. Write: the sink failed, and a part of the
  -- text was put; so it was where memory ran out.
  abbrev pub Says : Result ℕ RunFault → Type 0
  Says (Ok frames) = TellsWhole captures rx_text source source' sink sink' (HasFrames frames)
  Says (Err (Format fault)) = TellsRefused captures rx_text source source' sink sink' fault
  Says (Err RunRead) = TellsBroken captures frame_lines_of source source' sink sink' × Rose source source'
  Says (Err RunWrite) = PutsPieces × Rose sink sink'
  Says (Err RunMemory) = PutsPieces

  -- what it says of the capture that it ended so
  abbrev pub Alone : ManyEnd → Type 0
  Alone end = Says (answer_of end)

  -- the lines of the capture were put, and this was answered: what was taken, and the sink behind them
  abbrev pub Heard : Result Ended RunFault → Type 0
  Heard answer = MatchResult answer (TellsTo frame_lines_of source source' sink sink') (StopsBy frame_lines_of source source' sink sink')

-- the whole text of the capture was put
abbrev pub HasText : ManyEnd → Type 0
HasText (Done frames) = Unit {0}
HasText (Refused fault) = Unit {0}
HasText Read = ⊥
HasText Write = ⊥

-- the whole text of each was put
abbrev pub HaveText : List ManyEnd → Type 0
HaveText ends = (k : ℕ) → k < length ends → HasText (slice_index_or ends k Read)

-- the last line of a capture whose receiving answered this was put, where there is one, and it ended so
abbrev pub FinishesCapture : Result Ended RunFault → Device ℕ → Device ℕ → ManyEnd → Type 0
FinishesCapture answer sink sink' end = PutsLast answer sink sink' (answer_of end)

-- A call put the last line of a capture whose receiving answered this, and answered how it ended: how contracts see a sink, and the
-- sink before and after.
pub record EndsCapture {K E : Type 0} (sink : K → Device ℕ) (answer : Result Ended RunFault) (before after : K) (result : Result ManyEnd E) : Type 0 where
  pub ends : IfOk result (FinishesCapture answer (sink before) (sink after))
  -- where the end isn't `Write`, the sink didn't fail
  pub writes : IfOk result (λ end. end ≢ Write → (sink after).faults ≡ (sink before).faults)
  -- without memory for the line the sink is as before
  pub memory : OnErr result (after ≡ before)
  pub later : IsLater (sink before) (sink after)
