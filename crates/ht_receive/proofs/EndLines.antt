-- What a call comes to that puts lines, and then the line that ends them.
use Rattle.std.specs.Prelude.{◌≡◌, ℕ, List, Result, Ok, Err}
use Rattle.std.proofs.Common.{sym, subst, inl, inr}
use Rattle.ht_io.specs.Devices.{Device, Rose, IsLater}
use Rattle.ht_io.proofs.Calls.{failed-later}
use Rattle.ht_fields.specs.Grammar.{Grammar}
use Rattle.ht_fields.specs.Meanings.{meaning}
use Rattle.ht_text.specs.Lines.{end_text}
use Rattle.ht_runs.specs.Formats.{IsLined, filter}
use Rattle.ht_runs.specs.Outcomes.{TellsBroken, TellsPieces, TellsWhole}
use Rattle.ht_runs.specs.Streamed.{StopsAtFault, StreamFails, Streamed}
use Rattle.ht_runs.specs.declared.faults.RunFault.{RunFault}
use Rattle.ht_runs.specs.declared.faults.RunFault.TheVariants.{Format, Read, Write, NoMemory}
use Rattle.ht_runs.proofs.Streaming.{broken_off, ended, ended_in_part, ended_without, lacked, written_in_part}
use Rattle.ht_feed.specs.declared.ended.Ended.{Ended}
use Rattle.ht_receive.specs.Endings.{PutsEnd}

-- A format, the text and the lines of its files; the source before and after, and the sink before; and what is said of a file
-- with so many frames.
module _ {S I : Type 0} (f : Grammar S I) (text lines : List ℕ → List ℕ) (source source' sink : Device ℕ) (Says : ℕ → List ℕ → Type 0) where
  -- the lines were put, by a run that ended so
  abbrev pub PutsLines : Result Ended RunFault → Device ℕ → Type 0
  PutsLines (Ok e) mid = TellsWhole f lines source source' sink mid (Says e.frames)
  PutsLines (Err (Format fault)) mid = StopsAtFault (filter f text lines) source source' sink mid fault
  PutsLines (Err Read) mid = TellsBroken f lines source source' sink mid × Rose source source'
  PutsLines (Err Write) mid = TellsPieces f lines source source' sink mid × Rose sink mid
  PutsLines (Err NoMemory) mid = TellsPieces f lines source source' sink mid

  -- a file of so many frames has this end line
  module _ (end_of : List I → List ℕ) (s : IsLined f text lines end_of)
      (are : (frames : ℕ) (octets : List ℕ) → Says frames octets → end_text frames ≡ end_of (meaning f f.start 0 octets).items) where
    -- what an answer says where this is what stands in the sink
    abbrev Comes : Device ℕ → Result ℕ RunFault → Type 0
    Comes sink' result = Streamed (filter f text lines) source source' sink sink' Says result

    -- the lines, and no end line
    without_end : (fault : RunFault) (sink' : Device ℕ) → PutsLines (Err fault) sink' → StreamFails (filter f text lines) source source' sink sink' fault
    without_end (Format fault) sink' put = put
    without_end Read sink' put = broken_off f text lines end_of s source source' sink sink' put.0 put.1
    without_end Write sink' put = written_in_part f text lines end_of s source source' sink sink' put.0 put.1
    without_end NoMemory sink' put = lacked f text lines end_of s source source' sink sink' put

    -- the lines, and the end line behind them
    pub with_end : (run : Result Ended RunFault) (mid sink' : Device ℕ) (result : Result ℕ RunFault)
        → PutsLines run mid → IsLater sink mid → PutsEnd run mid sink' result → Comes sink' result
    with_end (Ok e) mid sink' result put later (inl (is, last)) =
        subst (Comes sink') (sym is) (ended f text lines end_of s source source' sink mid sink' (Says e.frames) (end_text e.frames) (are e.frames) put last)
    with_end (Ok e) mid sink' result put later (inr (inl (is, last, rose))) =
        subst (Comes sink') (sym is)
        (ended_in_part f text lines end_of s source source' sink mid sink' (Says e.frames) (end_text e.frames) (are e.frames) put last
        (failed-later sink mid sink' later rose))
    with_end (Ok e) mid sink' result put later (inr (inr (is, same))) =
        subst (Comes sink') (sym is)
        (ended_without f text lines end_of s source source' sink sink' (Says e.frames)
        (subst (λ (k : Device ℕ). TellsWhole f lines source source' sink k (Says e.frames)) (sym same) put))
    with_end (Err fault) mid sink' result put later (is, same) =
        subst (Comes sink') (sym is) (without_end fault sink' (subst (λ (k : Device ℕ). PutsLines (Err fault) k) (sym same) put))
