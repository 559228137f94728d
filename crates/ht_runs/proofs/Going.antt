-- How a run goes on, and what it comes to where it stops.
use Rattle.std.specs.Prelude.{◌≡◌, ℕ, List, [], ◌++◌, Ok}
use Rattle.std.proofs.Common.{ap, ◌∙◌, sym, subst}
use Rattle.ht_io.specs.Devices.{Device, Grows, GrowsByPart, Rose, IsLater}
use Rattle.ht_io.specs.declared.faults.InFault.{InFault}
use Rattle.ht_io.specs.declared.faults.InFault.TheVariants.{Format, Read, NoMemory as ReadMemory}
use Rattle.ht_io.proofs.Calls.{failed-later, grows-append, grows-none, grows_by_part-append, grows_by_part-front, later-later, later-refl}
use Rattle.ht_fields.specs.Grammar.{Grammar}
use Rattle.ht_fields.specs.Meanings.{meaning}
use Rattle.ht_fields.specs.Readers.{ReaderView, Gives, Completes, reader_in}
use Rattle.ht_fields.specs.WholeFiles.{StopsWithCause}
use Rattle.ht_fields.proofs.Joins.{gives_more, gives_none}
use Rattle.ht_runs.specs.Faults.{fault_of_reading}
use Rattle.ht_runs.specs.Formats.{IsLined, filter}
use Rattle.ht_runs.specs.Going.{Goes}
use Rattle.ht_runs.specs.Outcomes.{TellsPieces, TellsWhole}
use Rattle.ht_runs.specs.Streamed.{StreamFails, Streamed}
use Rattle.ht_runs.specs.declared.faults.RunFault.TheVariants.{NoMemory, Write}
use Rattle.ht_runs.proofs.Known.{by_part}
use Rattle.ht_runs.proofs.Outcomes.{StartsWith, saw_gives, told_broken, told_pieces, told_refused, told_whole}
use Rattle.ht_runs.proofs.Streaming.{broken_off, ended, ended_in_part, lacked, stopped, written_in_part}

module _ {S I : Type 0} (f : Grammar S I) (lines_of : List I → List ℕ) (source sink : Device ℕ) where
  -- nothing was read yet
  pub goes_begun : lines_of [] ≡ [] → Goes f lines_of source sink (reader_in f f.start 0 source) sink []
  goes_begun none = record {
    gives = gives_none (reader_in f f.start 0 source);
    put = subst (λ (xs : List ℕ). Grows sink sink xs) (sym none) (grows-none sink);
    reads_later = later-refl source;
    puts_later = later-refl sink;
  }

  -- more items came, and their lines were put
  pub goes_on : (old new : ReaderView I) (mid sink' : Device ℕ) (items more : List I) (piece : List ℕ) → Goes f lines_of source sink old mid items
      → Gives old new more → IsLater old.source new.source → lines_of (items ++ more) ≡ lines_of items ++ piece → Grows mid sink' piece → IsLater mid sink'
      → Goes f lines_of source sink new sink' (items ++ more)
  goes_on old new mid sink' items more piece goes gives reads lines puts later = record {
    gives = gives_more (reader_in f f.start 0 source) old new items more goes.gives gives;
    put = subst (λ (xs : List ℕ). Grows sink sink' xs) (sym lines) (grows-append sink mid sink' (lines_of items) piece goes.put puts);
    reads_later = later-later source old.source new.source goes.reads_later reads;
    puts_later = later-later sink mid sink' goes.puts_later later;
  }

-- the text and the lines of the octets, and the end of a file with these items
module _ {S I : Type 0} (f : Grammar S I) (lines_of : List I → List ℕ) (source sink : Device ℕ) (text lines : List ℕ → List ℕ)
    (end_of : List I → List ℕ) (s : IsLined f text lines end_of) (are : (octets : List ℕ) → lines octets ≡ lines_of (meaning f f.start 0 octets).items) where
  lines_are : (items : List I) (octets : List ℕ) → (meaning f f.start 0 octets).items ≡ items → lines_of items ≡ lines octets
  lines_are items octets is = sym (are octets ∙ ap lines_of is)

  -- where lines of more items stand behind those of fewer
  abbrev pub LinesGrow : Type 0
  LinesGrow = (items more : List I) → (rest : List ℕ) × (lines_of (items ++ more) ≡ lines_of items ++ rest)

  module _ (grow : LinesGrow) where
    part_of : (device device' : Device ℕ) (items : List I) (octets : List ℕ) → StartsWith f source items octets
        → GrowsByPart device device' (lines_of items) → GrowsByPart device device' (lines octets)
    part_of device device' items octets (more, is) part =
        let longer = grow items more in
        subst (λ (xs : List ℕ). GrowsByPart device device' xs) (sym (are octets ∙ (ap lines_of is ∙ longer.1)))
        (grows_by_part-front device device' (lines_of items) longer.0 part)

    pieces_told : (reader : ReaderView I) (device' : Device ℕ) (items : List I) → Gives (reader_in f f.start 0 source) reader items
        → GrowsByPart sink device' (lines_of items) → TellsPieces f lines source reader.source sink device'
    pieces_told reader device' items gives part =
        told_pieces f source reader.source lines sink device' items (saw_gives f source reader items gives)
        (λ octets front. part_of sink device' items octets front part)

    -- memory ran out
    pub goes_without : (reader : ReaderView I) (sink' : Device ℕ) (items : List I) → Goes f lines_of source sink reader sink' items
        → StreamFails (filter f text lines) source reader.source sink sink' NoMemory
    goes_without reader sink' items goes =
        lacked f text lines end_of s source reader.source sink sink'
        (pieces_told reader sink' items goes.gives (by_part sink sink' (lines_of items) goes.put))

    -- more items came, and the sink failed at their lines
    pub goes_in_part : (old new : ReaderView I) (mid sink' : Device ℕ) (items more : List I) (piece : List ℕ) → Goes f lines_of source sink old mid items
        → Gives old new more → lines_of (items ++ more) ≡ lines_of items ++ piece → GrowsByPart mid sink' piece → Rose mid sink'
        → StreamFails (filter f text lines) source new.source sink sink' Write
    goes_in_part old new mid sink' items more piece goes gives is part rose =
        let put = subst (λ (xs : List ℕ). GrowsByPart sink sink' xs) (sym is) (grows_by_part-append sink mid sink' (lines_of items) piece goes.put part) in
        written_in_part f text lines end_of s source new.source sink sink'
        (pieces_told new sink' (items ++ more) (gives_more (reader_in f f.start 0 source) old new items more goes.gives gives) put)
        (failed-later sink mid sink' goes.puts_later rose)

    -- the reader halted
    pub goes_halted : (reader : ReaderView I) (source' sink' : Device ℕ) (items : List I) (fault : InFault) → Goes f lines_of source sink reader sink' items
        → StopsWithCause reader source' fault → StreamFails (filter f text lines) source source' sink sink' (fault_of_reading fault)
    goes_halted reader source' sink' items (Format fault) goes (stops, cause) =
        stopped f text lines end_of s source source' sink sink' fault
        (told_refused f source source' lines sink sink' items (lines_of items) (lines_are items) reader fault goes.gives stops goes.put)
    goes_halted reader source' sink' items Read goes (breaks, rose) =
        broken_off f text lines end_of s source source' sink sink'
        (told_broken f source source' lines sink sink' items (lines_of items) (lines_are items) reader goes.gives breaks goes.put)
        (failed-later source reader.source source' goes.reads_later rose)
    goes_halted reader source' sink' items ReadMemory goes (stops, never) = absurd never

  -- the file ended behind the items, and its end was put, or a part of that
  module _ (reader : ReaderView I) (source' mid sink' : Device ℕ) (items : List I) (goes : Goes f lines_of source sink reader mid items)
      (completes : Completes reader source') where
    whole_told : TellsWhole f lines source source' sink mid (λ octets. (meaning f f.start 0 octets).items ≡ items)
    whole_told =
        told_whole f source source' lines sink mid items (lines_of items) (lines_are items) reader completes.taken
        (λ octets. (meaning f f.start 0 octets).items ≡ items) goes.gives completes.octets completes.means (λ octets is. is) goes.put

    end_is : (octets : List ℕ) → (meaning f f.start 0 octets).items ≡ items → end_of items ≡ end_of (meaning f f.start 0 octets).items
    end_is octets is = ap end_of (sym is)

    pub goes_ended : {A : Type 0} (Says : A → List ℕ → Type 0) (answer : A)
        → ((octets : List ℕ) → (meaning f f.start 0 octets).items ≡ items → Says answer octets)
        → Grows mid sink' (end_of items) → Streamed (filter f text lines) source source' sink sink' Says (Ok answer)
    goes_ended Says answer says last =
        let run = ended f text lines end_of s source source' sink mid sink' (λ octets. (meaning f f.start 0 octets).items ≡ items)
        (end_of items) end_is whole_told last in
        (run.0, says run.0.taken run.1)

    pub goes_ended_in_part : GrowsByPart mid sink' (end_of items) → Rose mid sink' → StreamFails (filter f text lines) source source' sink sink' Write
    goes_ended_in_part last rose =
        ended_in_part f text lines end_of s source source' sink mid sink' (λ octets. (meaning f f.start 0 octets).items ≡ items)
        (end_of items) end_is whole_told last (failed-later sink mid sink' goes.puts_later rose)
