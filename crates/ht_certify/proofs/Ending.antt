-- What a check comes to where it ends.
use Rattle.std.proofs.Common.{◌≡◌, ℕ, ◌+◌, List, [], ◌∷◌, ◌++◌, length, None, refl, sym, ap, subst, ◌∙◌, inl, inr, append_assoc}
use Rattle.ht_io.specs.Devices.{Device, Grows, GrowsByPart, IsLater, Rose, TakesAll}
use Rattle.ht_io.proofs.Calls.{failed-later, grows-append, grows_by_part-append, grows_by_part-front, grows_by_part-none, later-later, takes-all}
use Rattle.ht_io.specs.declared.faults.InFault.{InFault}
use Rattle.ht_io.specs.declared.faults.InFault.TheVariants.{Format, Read, NoMemory as ReadMemory}
use Rattle.ht_fields.specs.Meanings.{Meaning, before, meaning}
use Rattle.ht_fields.specs.Readers.{ReaderView, Gives, Completes}
use Rattle.ht_fields.proofs.Answered.{alone, file_found}
use Rattle.ht_fields.proofs.Joins.{gives_more}
use Rattle.ht_runs.specs.Faults.{fault_of_reading}
use Rattle.ht_runs.specs.Filters.{unrefused, where_faulty}
use Rattle.ht_runs.specs.Formats.{IsLined, last_text}
use Rattle.ht_runs.specs.Going.{Goes}
use Rattle.ht_runs.specs.Outcomes.{TellsPieces}
use Rattle.ht_runs.specs.Streamed.{EndsWithItsFault, FinishesRun, StreamFails}
use Rattle.ht_runs.specs.declared.faults.RunFault.TheVariants.{NoMemory, Write}
use Rattle.ht_runs.proofs.Going.{goes_halted}
use Rattle.ht_text.specs.Lines.{checked_text}
use Rattle.ht_runs.proofs.Known.{by_part, known_all, takes_of}
use Rattle.ht_runs.proofs.Outcomes.{Saw, StartsWith, saw_behind, saw_gives, saw_rest, told_nothing, told_pieces}
use Rattle.ht_runs.proofs.Streaming.{ends_with_its_fault, lacked, lined, written_in_part}
use Rattle.ht_cert.specs.declared.record.Record.{Record}
use Rattle.ht_cert.specs.Formats.{certificates}
use Rattle.ht_cert.specs.Readers.{Fails, TakesSome, here}
use Rattle.ht_certify.specs.declared.score.Score.{Score}
use Rattle.ht_certify.specs.Checks.{check_end_of, check_line, check_lines, check_lines_from, check_lines_of, check_text, checking}
use Rattle.ht_certify.specs.Running.{Checks}
use Rattle.ht_certify.proofs.Lists.{lines_append}
use Rattle.ht_certify.proofs.Stepping.{line_added}

are_lined : IsLined certificates check_text check_lines check_end_of
are_lined = lined certificates check_lines_of check_end_of

-- the text of what is no file has the line of its first fault behind the lines
pub checking_ends : EndsWithItsFault checking
checking_ends = ends_with_its_fault certificates check_text check_lines check_end_of are_lined

-- a reader that failed took some octets
took : (old : ReaderView Record) (after : Device ℕ) (fault : InFault) → Fails old after fault → TakesSome old.source after
took old after (Format fault) (inl r, cause) = (r.taken, r.octets)
took old after (Format fault) (inr r, cause) = (r.taken, takes_of old.source after r.taken r.octets)
took old after Read (b, cause) = (b.taken, b.octets)
took old after ReadMemory some = some

module _ (source sink : Device ℕ) where
  grow : (records more : List Record) → (rest : List ℕ) × (check_lines_of (records ++ more) ≡ check_lines_of records ++ rest)
  grow records more = (check_lines_from (0 + length records) more, lines_append 0 records more)

  part_of : (sink' : Device ℕ) (records : List Record) (octets : List ℕ) → StartsWith certificates source records octets
      → GrowsByPart sink sink' (check_lines_of records) → GrowsByPart sink sink' (check_lines octets)
  part_of sink' records octets (more, is) part =
      subst (λ (xs : List ℕ). GrowsByPart sink sink' xs) (sym (ap check_lines_of is ∙ lines_append 0 records more))
      (grows_by_part-front sink sink' (check_lines_of records) (check_lines_from (0 + length records) more) part)

  -- a part of the lines of what was seen was put
  pieces : (source' sink' : Device ℕ) (records : List Record) → Saw certificates source source' records
      → GrowsByPart sink sink' (check_lines_of records) → TellsPieces certificates check_lines source source' sink sink'
  pieces source' sink' records saw part =
      told_pieces certificates source source' check_lines sink sink' records saw (λ octets front. part_of sink' records octets front part)

  -- memory ran out before anything was read
  pub lacks_at_once : StreamFails checking source source sink sink NoMemory
  lacks_at_once = lacked certificates check_text check_lines check_end_of are_lined source source sink sink (told_nothing certificates source check_lines sink)

  -- lines were put, and others wait
  module _ (source' sink' : Device ℕ) (records : List Record) (put waiting : List ℕ) (saw : Saw certificates source source' records)
      (lines : check_lines_of records ≡ put ++ waiting) (grows : Grows sink sink' put) where
    -- memory ran out
    lacks : StreamFails checking source source' sink sink' NoMemory
    lacks =
        lacked certificates check_text check_lines check_end_of are_lined source source' sink sink'
        (pieces source' sink' records saw (subst (λ (xs : List ℕ). GrowsByPart sink sink' xs) (sym lines)
        (grows_by_part-append sink sink' sink' put waiting grows (grows_by_part-none sink' waiting))))

    -- the sink failed at the lines that wait
    fails_to_put : (sink'' : Device ℕ) → GrowsByPart sink' sink'' waiting → IsLater sink sink' → Rose sink' sink''
        → StreamFails checking source source' sink sink'' Write
    fails_to_put sink'' part later rose =
        written_in_part certificates check_text check_lines check_end_of are_lined source source' sink sink''
        (pieces source' sink'' records saw (subst (λ (xs : List ℕ). GrowsByPart sink sink'' xs) (sym lines)
        (grows_by_part-append sink sink' sink'' put waiting grows part)))
        (failed-later sink sink' sink'' later rose)

  module _ (reader : ReaderView Record) (sink' : Device ℕ) (score : Score) (waiting : List ℕ) (k : Checks source sink reader sink' score waiting) where
    -- a record came, and there is no memory for its line
    pub lacks_line : (new : ReaderView Record) (r : Record) → Gives reader new (r ∷ []) → StreamFails checking source new.source sink sink' NoMemory
    lacks_line new r gives =
        let all = gives_more (here certificates.start 0 source) reader new k.records (r ∷ []) k.gives gives in
        lacks new.source sink' (k.records ++ r ∷ []) k.put (waiting ++ check_line score.jobs r)
        (saw_gives certificates source new (k.records ++ r ∷ []) all)
        (line_added source sink reader sink' score waiting (waiting ++ check_line score.jobs r) r k refl) k.grows

    -- a record came, and the sink failed at the lines
    pub fails_at_lines : (new : ReaderView Record) (sink'' : Device ℕ) (text : List ℕ) (r : Record) → Gives reader new (r ∷ [])
        → text ≡ waiting ++ check_line score.jobs r → GrowsByPart sink' sink'' text → Rose sink' sink''
        → StreamFails checking source new.source sink sink'' Write
    fails_at_lines new sink'' text r gives is part rose =
        let all = gives_more (here certificates.start 0 source) reader new k.records (r ∷ []) k.gives gives in
        fails_to_put new.source sink' (k.records ++ r ∷ []) k.put text (saw_gives certificates source new (k.records ++ r ∷ []) all)
        (line_added source sink reader sink' score waiting text r k is) k.grows sink'' part k.puts_later rose

    saw_failed : (source' : Device ℕ) (fault : InFault) → Fails reader source' fault → Saw certificates source source' k.records
    saw_failed source' fault fails =
        let some = took reader source' fault fails in
        saw_behind certificates source source' reader k.records k.gives some.0 some.1

    -- the reader failed, and the lines that waited were put
    all_put : (sink'' : Device ℕ) → Grows sink' sink'' waiting → Grows sink sink'' (check_lines_of k.records)
    all_put sink'' more =
        subst (λ (xs : List ℕ). Grows sink sink'' xs) (sym k.lines) (grows-append sink sink' sink'' k.put waiting k.grows more)

    pub halts : (source' sink'' : Device ℕ) (fault : InFault) → Fails reader source' fault → Grows sink' sink'' waiting → IsLater sink' sink''
        → StreamFails checking source source' sink sink'' (fault_of_reading fault)
    halts source' sink'' fault fails more later =
        let goes : Goes certificates check_lines_of source sink reader sink'' k.records = record {
          gives = k.gives;
          put = all_put sink'' more;
          reads_later = k.reads_later;
          puts_later = later-later sink sink' sink'' k.puts_later later;
        } in
        by fault fails goes
      where
        by : (fault : InFault) → Fails reader source' fault → Goes certificates check_lines_of source sink reader sink'' k.records
            → StreamFails checking source source' sink sink'' (fault_of_reading fault)
        by (Format f) fails goes =
            goes_halted certificates check_lines_of source sink check_text check_lines check_end_of are_lined (λ octets. refl) grow
            reader source' sink'' k.records (Format f) goes fails
        by Read fails goes =
            goes_halted certificates check_lines_of source sink check_text check_lines check_end_of are_lined (λ octets. refl) grow
            reader source' sink'' k.records Read goes fails
        by ReadMemory fails goes =
            lacked certificates check_text check_lines check_end_of are_lined source source' sink sink''
            (pieces source' sink'' k.records (saw_failed source' ReadMemory fails) (by_part sink sink'' (check_lines_of k.records) goes.put))

    -- the reader failed, and the sink at the lines that waited
    pub halts_in_part : (source' sink'' : Device ℕ) (fault : InFault) → Fails reader source' fault → GrowsByPart sink' sink'' waiting → Rose sink' sink''
        → StreamFails checking source source' sink sink'' Write
    halts_in_part source' sink'' fault fails part rose =
        fails_to_put source' sink' k.records k.put waiting (saw_failed source' fault fails) k.lines k.grows sink'' part k.puts_later rose

    -- the file ended behind the records
    module _ (source' : Device ℕ) (c : Completes reader source') where
      -- there is no memory for the last line
      pub lacks_end : StreamFails checking source source' sink sink' NoMemory
      lacks_end =
          lacks source' sink' k.records k.put waiting (saw_rest certificates source source' reader k.records k.gives c.taken c.octets) k.lines k.grows

      abbrev all_taken : List ℕ
      all_taken = k.gives.taken ++ c.taken

      all_octets : TakesAll source source' all_taken
      all_octets = takes-all source reader.source source' k.gives.taken c.taken k.gives.octets c.octets

      all_mean : meaning certificates certificates.start 0 all_taken ≡ record { items = k.records; fault = None }
      all_mean = k.gives.means c.taken ∙ (ap (before k.records) c.means ∙ alone k.records None)

      text_is : check_text all_taken ≡ check_lines_of k.records ++ check_end_of k.records
      text_is = ap (λ (m : Meaning Record). check_lines_of m.items ++ last_text m.fault (check_end_of m.items)) all_mean

      own_text_is : unrefused checking all_taken ≡ check_lines_of k.records ++ check_end_of k.records
      own_text_is =
          ap (λ (m : Meaning Record). where_faulty m.fault (check_lines_of m.items) (check_lines_of m.items ++ last_text m.fault (check_end_of m.items)))
          all_mean

      -- the lines and the last one, of which these were put
      split : (last : List ℕ) → last ≡ waiting ++ check_end_of k.records → check_lines_of k.records ++ check_end_of k.records ≡ k.put ++ last
      split last is =
          ap (λ (xs : List ℕ). xs ++ check_end_of k.records) k.lines
          ∙ (append_assoc k.put waiting (check_end_of k.records) ∙ ap (λ (xs : List ℕ). k.put ++ xs) (sym is))

      -- the last line is that of the counts
      pub last_is : (last : List ℕ) → last ≡ waiting ++ checked_text score.jobs score.right → last ≡ waiting ++ check_end_of k.records
      last_is last is =
          is ∙ (ap (λ n. waiting ++ checked_text n score.right) k.jobs ∙ ap (λ n. waiting ++ checked_text (length k.records) n) k.right)

      pub ends : (sink'' : Device ℕ) (last : List ℕ) → last ≡ waiting ++ checked_text score.jobs score.right → Grows sink' sink'' last
          → FinishesRun checking source source' sink sink''
      ends sink'' last is more = record {
        taken = all_taken;
        octets = all_octets;
        input = file_found certificates all_taken (ap (λ (m : Meaning Record). m.fault) all_mean);
        text = subst (λ (xs : List ℕ). Grows sink sink'' xs) (sym (text_is ∙ split last (last_is last is)))
            (grows-append sink sink' sink'' k.put last k.grows more);
      }

      pub ends_in_part : (sink'' : Device ℕ) (last : List ℕ) → last ≡ waiting ++ checked_text score.jobs score.right → GrowsByPart sink' sink'' last
          → Rose sink' sink''
          → StreamFails checking source source' sink sink'' Write
      ends_in_part sink'' last is part rose =
          let put : GrowsByPart sink sink'' (unrefused checking all_taken) =
          subst (λ (xs : List ℕ). GrowsByPart sink sink'' xs) (sym (own_text_is ∙ split last (last_is last is)))
          (grows_by_part-append sink sink' sink'' k.put last k.grows part) in (
            record {
              taken = all_taken;
              octets = takes_of source source' all_taken all_octets;
              text = put;
              of_all = known_all source.known source'.known all_taken (λ xs. GrowsByPart sink sink'' (unrefused checking xs)) all_octets put;
            },
            failed-later sink sink' sink'' k.puts_later rose,
          )
