-- A check that begins, and one that goes on by a record.
use Rattle.std.proofs.Common.{◌≡◌, ℕ, ◌+◌, ◌≤◌, List, [], ◌∷◌, ◌++◌, refl, sym, ap, subst, ◌∙◌, append_assoc, arith, length-append}
use Rattle.ht_io.specs.Devices.{Device, Grows, IsLater}
use Rattle.ht_io.proofs.Calls.{grows-append, grows-none, later-later, later-refl}
use Rattle.ht_fields.specs.Readers.{ReaderView, Gives}
use Rattle.ht_fields.proofs.Joins.{gives_more, gives_none}
use Rattle.ht_cert.specs.declared.record.Record.{Record}
use Rattle.ht_cert.specs.Formats.{certificates}
use Rattle.ht_cert.specs.Readers.{here}
use Rattle.ht_certify.specs.declared.score.Score.{Score}
use Rattle.ht_certify.specs.Checks.{check_line, check_lines_of, yes_count}
use Rattle.ht_certify.specs.Running.{Checks}
use Rattle.ht_certify.proofs.Lists.{line_behind, yes_at_most, yes_behind}

module _ (source sink : Device ℕ) where
  abbrev start : ReaderView Record
  start = here certificates.start 0 source

  -- nothing was read yet
  pub checks_begun : (reader : ReaderView Record) (score : Score) (waiting : List ℕ) → reader ≡ start → score.jobs ≡ 0 → score.right ≡ 0 → waiting ≡ []
      → Checks source sink reader sink score waiting
  checks_begun reader score waiting is jobs right none = subst (λ (r : ReaderView Record). Checks source sink r sink score waiting) (sym is) (record {
    records = [];
    put = [];
    gives = gives_none start;
    lines = sym none;
    grows = grows-none sink;
    jobs = jobs;
    right = right;
    reads_later = later-refl source;
    puts_later = later-refl sink;
    steady = refl;
  })

  -- as many hold as were counted, or fewer
  pub right_few : (reader : ReaderView Record) (sink' : Device ℕ) (score : Score) (waiting : List ℕ) → Checks source sink reader sink' score waiting
      → score.right ≤ score.jobs
  right_few reader sink' score waiting k =
      let jobs = k.jobs in
      let right = k.right in
      omega (arith, jobs, right, yes_at_most k.records)

  -- the lines with that of one record more
  pub line_added : (reader : ReaderView Record) (sink' : Device ℕ) (score : Score) (waiting text : List ℕ) (r : Record)
      (k : Checks source sink reader sink' score waiting)
      → text ≡ waiting ++ check_line score.jobs r → check_lines_of (k.records ++ r ∷ []) ≡ k.put ++ text
  line_added reader sink' score waiting text r k is =
      line_behind k.records r
      ∙ (ap (λ n. check_lines_of k.records ++ check_line n r) (sym k.jobs)
      ∙ (ap (λ (xs : List ℕ). xs ++ check_line score.jobs r) k.lines
      ∙ (append_assoc k.put waiting (check_line score.jobs r) ∙ ap (λ (xs : List ℕ). k.put ++ xs) (sym is))))

  -- a record came and was counted, its line waits behind the others, and some of them were put
  pub checks_on : (old new : ReaderView Record) (sink' sink'' : Device ℕ) (score score' : Score) (waiting text lines rest : List ℕ) (r : Record)
      → Checks source sink old sink' score waiting → Gives old new (r ∷ []) → IsLater old.source new.source → text ≡ waiting ++ check_line score.jobs r
      → score'.jobs ≡ score.jobs + 1 → score'.right ≡ score.right + yes_count r → Grows sink' sink'' lines → text ≡ lines ++ rest → IsLater sink' sink''
      → sink''.faults ≡ sink'.faults → Checks source sink new sink'' score' rest
  checks_on old new sink' sink'' score score' waiting text lines rest r k gives reads is jobs right grows split puts steady = record {
    records = k.records ++ r ∷ [];
    put = k.put ++ lines;
    gives = gives_more start old new k.records (r ∷ []) k.gives gives;
    lines = line_added old sink' score waiting text r k is ∙ (ap (λ (xs : List ℕ). k.put ++ xs) split ∙ sym (append_assoc k.put lines rest));
    grows = grows-append sink sink' sink'' k.put lines k.grows grows;
    jobs = let e = k.jobs in omega (arith, jobs, e, length-append k.records (r ∷ []));
    right = let e = k.right in omega (arith, right, e, yes_behind k.records r);
    reads_later = later-later source old.source new.source k.reads_later reads;
    puts_later = later-later sink sink' sink'' k.puts_later puts;
    steady = steady ∙ k.steady;
  }
