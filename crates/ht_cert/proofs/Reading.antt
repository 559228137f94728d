-- What reading a record does, field by field.
use Rattle.std.proofs.Common.{◌≡◌, ℕ, ◌+◌, ◌-◌, ◌<◌, ◌≤◌, List, [], ◌∷◌, ◌++◌, length, Bool, refl, sym, ap, subst, ◌∙◌, append_assoc, arith}
use Rattle.std.proofs.lemmas.List.{append-nil}
use Rattle.byteorder.specs.Endian.{big_bytes}
use Rattle.ht_io.specs.Devices.{Device, Takes, TakesAll, IsLater}
use Rattle.ht_io.proofs.Calls.{later-later, takes-all, takes-append}
use Rattle.ht_io.specs.declared.faults.InFault.{InFault}
use Rattle.ht_io.specs.declared.faults.Kind.TheVariants.{BadModulation, BadStreams, BadMark}
use Rattle.ht_fields.specs.Lacking.{FailsField, GoesFurther, LacksField}
use Rattle.ht_fields.proofs.Halting.{further_halts}
use Rattle.ht_fields.proofs.Steps.{whole_file}
use Rattle.ht_fields.specs.Readers.{ReaderView, Gives, Completes}
use Rattle.ht_fields.specs.Tests.{is_above}
use Rattle.ht_fields.proofs.Joins.{gives_more}
use Rattle.ht_fields.proofs.Routes.{route_gives}
use Rattle.ht_heads.specs.Starts.{StartState, Body, Over}
use Rattle.ht_rate.specs.declared.kinds.Modulation.{Modulation}
use Rattle.ht_cert.specs.declared.record.Record.{Record}
use Rattle.ht_cert.specs.declared.turn.Turn.{Turn}
use Rattle.ht_metric.proofs.RowLemmas.{length-rows_of}
use Rattle.ht_capture.specs.Systems.{samples_at, triangle_of}
use Rattle.ht_capture.proofs.Grids.{length-triangle_of}
use Rattle.ht_cert.specs.Records.{claim_width, claimed, code_of, points_begin, samples_begin, with_marks}
use Rattle.ht_cert.proofs.Encoded.{length-points_at}
use Rattle.ht_cert.specs.Formats.{RecordState, Modulated, Streams, Claim, Marks, Mark, certificates, is_no_streams, marks_due, marks_given, next_turn}
use Rattle.ht_cert.specs.Formats.{records_due}
use Rattle.ht_cert.specs.Readers.{Fails, GivesRecord, HasItsPoints, ReadsClaim, TakesSome, here}
use Rattle.ht_cert.specs.declared.reader.RecordStep.{RecordStep}
use Rattle.ht_cert.specs.declared.reader.RecordStep.TheVariants.{Whole, End}
use Rattle.std.specs.Prelude.{MatchResult}
use Rattle.std.proofs.Common.{Result, Ok, Err}
use Rattle.ht_fields.specs.Meanings.{before}
use Rattle.ht_cert.proofs.Routes.{claim_halts, gives_fails, halts_fails, mark_halts, mark_is, modulation_halts, none_given, one_given, over_is, record_is}
use Rattle.ht_cert.proofs.Routes.{route_claim, route_marks, route_modulation, route_streams, streams_halts, whole_is}

pub no_marks_more : (r : Record) → with_marks r [] ≡ r
unfolding with_marks
no_marks_more r =
    let at : List Bool → Record = λ marks. record {
      modulation = r.modulation;
      job = r.job;
      certificate = record { vector = r.certificate.vector; distance = r.certificate.distance; marks = marks };
    } in
    ap at (append-nil r.certificate.marks)

pub marks_then : (r : Record) (xs ys : List Bool) → with_marks (with_marks r xs) ys ≡ with_marks r (xs ++ ys)
unfolding with_marks
marks_then r xs ys =
    let at : List Bool → Record = λ marks. record {
      modulation = r.modulation;
      job = r.job;
      certificate = record { vector = r.certificate.vector; distance = r.certificate.distance; marks = marks };
    } in
    ap at (append_assoc r.certificate.marks xs ys)

-- a record without marks that was given these
pub marks_set : (r new : Record) (marks : List Bool) → r.certificate.marks ≡ []
    → new ≡ record {
      modulation = r.modulation;
      job = r.job;
      certificate = record
          { vector = r.certificate.vector; distance = r.certificate.distance; marks = marks };
    }
    → new ≡ with_marks r marks
unfolding with_marks
marks_set r new marks none is =
    let at : List Bool → Record = λ marks. record {
      modulation = r.modulation;
      job = r.job;
      certificate = record { vector = r.certificate.vector; distance = r.certificate.distance; marks = marks };
    } in
    is ∙ ap at (sym (ap (λ (m : List Bool). m ++ marks) none))

-- what was given so far, where this number of marks is left
abbrev pub GivesMarks : ReaderView Record → Turn → Record → ℕ → ℕ → Device ℕ → Type 0
GivesMarks old turn r left at source = Gives old (here (marks_due turn r left) at source) (marks_given r left)

pub gives_marks_as : (old : ReaderView Record) (turn : Turn) (r r' : Record) (left left' at at' : ℕ) (source : Device ℕ)
    → r ≡ r' → left ≡ left' → at ≡ at' → GivesMarks old turn r left at source → GivesMarks old turn r' left' at' source
gives_marks_as old turn r r' left left' at at' source e f h g =
    subst (λ (x : Record). GivesMarks old turn x left' at' source) e
    (subst (λ (n : ℕ). GivesMarks old turn r n at' source) f (subst (λ (n : ℕ). GivesMarks old turn r left n source) h g))

-- the number of marks was read
pub marks_begun : (turn : Turn) (r : Record) (count at : ℕ) (marks : List Bool) (source after : Device ℕ) → count ≤ 33554432
    → marks ≡ [] → Takes source after (big_bytes 4 count)
    → GivesMarks (here (Body (Marks turn r)) at source) turn (with_marks r marks) (count - 0) (at + 4 + 0) after
marks_begun turn r count at marks source after few none taken =
    let same : r ≡ with_marks r marks = sym (ap (with_marks r) none ∙ no_marks_more r) in
    let place : at + 4 ≡ at + length (big_bytes 4 count) = refl in
    gives_marks_as _ turn r _ count (count - 0) (at + 4) (at + 4 + 0) after same (omega arith) (omega arith)
    (route_gives certificates (Body (Marks turn r)) (marks_due turn r count) (big_bytes 4 count) (marks_given r count) at (at + 4) source after
    (route_marks turn r count few) place taken)

pub mark_next : (old : ReaderView Record) (turn : Turn) (r : Record) (left at : ℕ) (source : Device ℕ) → 0 < left
    → GivesMarks old turn r left at source → Gives old (here (Body (Mark turn r left)) at source) []
mark_next old turn r left at source some g =
    subst (λ (s : StartState RecordState). Gives old (here s at source) []) (mark_is turn r left some)
    (subst (λ (items : List Record). Gives old (here (marks_due turn r left) at source) items) (none_given r left some) g)

-- a mark was not read
pub mark_failed : (old : ReaderView Record) (turn : Turn) (r : Record) (count k at : ℕ) (source after : Device ℕ) (fault : InFault)
    → k < count → GivesMarks old turn r (count - k) at source → IsLater old.source source
    → FailsField 1 BadMark (is_above 1) at source after fault → Fails old after fault
mark_failed old turn r count k at source after fault lt g later fails =
    gives_fails old (here (Body (Mark turn r (count - k))) at source) after fault (mark_next old turn r (count - k) at source (omega (arith, lt)) g) later
    (halts_fails _ after fault (mark_halts turn r (count - k) at source after fault fails))

-- all marks were read
pub marks_whole : (old : ReaderView Record) (turn : Turn) (r new : Record) (left at : ℕ) (source : Device ℕ) → left ≡ 0 → new ≡ r
    → GivesMarks old turn r left at source → Gives old (here (records_due (next_turn turn)) at source) (new ∷ [])
marks_whole old turn r new left at source none is g =
    subst (λ (x : Record). Gives old (here (records_due (next_turn turn)) at source) (x ∷ [])) (sym is)
    (subst (λ (s : StartState RecordState). Gives old (here s at source) (r ∷ [])) (whole_is turn r left none)
    (subst (λ (items : List Record). Gives old (here (marks_due turn r left) at source) items) (one_given r left none) g))

-- the modulation, the number of streams and the claim were read
pub modulation_read : (turn : Turn) (m : Modulation) (at : ℕ) (a b : Device ℕ) → 0 < turn.left → Takes a b (code_of m ∷ [])
    → Gives (here (records_due turn) at a) (here (Body (Streams turn m)) (at + 1) b) []
modulation_read turn m at a b some taken =
    subst (λ (s : StartState RecordState). Gives (here s at a) (here (Body (Streams turn m)) (at + 1) b) []) (sym (record_is turn some))
    (route_gives certificates (Body (Modulated turn)) (Body (Streams turn m)) (code_of m ∷ []) [] at (at + 1) a b (route_modulation turn m) refl taken)

pub streams_read : (turn : Turn) (m : Modulation) (streams at : ℕ) (a b c : Device ℕ) → 0 < turn.left → 1 ≤ streams → streams ≤ 4
    → Takes a b (code_of m ∷ []) → Takes b c (streams ∷ []) → Gives (here (records_due turn) at a) (here (Body (Claim turn m streams)) (at + 2) c) []
streams_read turn m streams at a b c left some few x y =
    let place : at + 2 ≡ at + 1 + length (streams ∷ []) = omega arith in
    gives_more (here (records_due turn) at a) (here (Body (Streams turn m)) (at + 1) b) (here (Body (Claim turn m streams)) (at + 2) c) [] []
    (modulation_read turn m at a b left x)
    (route_gives certificates (Body (Streams turn m)) (Body (Claim turn m streams)) (streams ∷ []) [] (at + 1) (at + 2) b c
    (route_streams turn m streams some few) place y)

pub claim_read : (turn : Turn) (m : Modulation) (streams at behind : ℕ) (r : Record) (a b c d : Device ℕ) → 0 < turn.left → 1 ≤ streams → streams ≤ 4
    → Takes a b (code_of m ∷ []) → Takes b c (streams ∷ []) → ReadsClaim turn.number m streams r c d → behind ≡ at + 2 + claim_width streams
    → Gives (here (records_due turn) at a) (here (Body (Marks turn r)) behind d) []
claim_read turn m streams at behind r a b c d left some few x y (octets, wide, is, taken) place =
    let all : behind ≡ at + 2 + length octets = place ∙ ap (λ n. at + 2 + n) (sym wide) in
    subst (λ (z : Record). Gives (here (records_due turn) at a) (here (Body (Marks turn z)) behind d) []) (sym is)
    (gives_more (here (records_due turn) at a) (here (Body (Claim turn m streams)) (at + 2) c) _ [] []
    (streams_read turn m streams at a b c left some few x y)
    (route_gives certificates (Body (Claim turn m streams)) (Body (Marks turn (claimed turn.number m streams octets))) octets [] (at + 2) behind c d
    (route_claim turn m streams octets wide) all taken))

-- they were not read
pub modulation_failed : (turn : Turn) (at : ℕ) (source after : Device ℕ) (fault : InFault) → 0 < turn.left
    → FailsField 1 BadModulation (is_above 3) at source after fault → Fails (here (records_due turn) at source) after fault
modulation_failed turn at source after fault some fails =
    subst (λ (s : StartState RecordState). Fails (here s at source) after fault) (sym (record_is turn some))
    (halts_fails _ after fault (modulation_halts turn at source after fault fails))

pub streams_failed : (turn : Turn) (m : Modulation) (at : ℕ) (a b after : Device ℕ) (fault : InFault) → 0 < turn.left
    → Takes a b (code_of m ∷ []) → IsLater a b → FailsField 1 BadStreams is_no_streams (at + 1) b after fault → Fails (here (records_due turn) at a) after fault
streams_failed turn m at a b after fault some x later fails =
    gives_fails (here (records_due turn) at a) (here (Body (Streams turn m)) (at + 1) b) after fault (modulation_read turn m at a b some x) later
    (halts_fails _ after fault (streams_halts turn m (at + 1) b after fault fails))

pub claim_failed : (turn : Turn) (m : Modulation) (streams at : ℕ) (a b c after : Device ℕ) (fault : InFault) → 0 < turn.left → 1 ≤ streams → streams ≤ 4
    → Takes a b (code_of m ∷ []) → IsLater a b → Takes b c (streams ∷ []) → IsLater b c
    → LacksField (claim_width streams) (at + 2) c after fault → Fails (here (records_due turn) at a) after fault
claim_failed turn m streams at a b c after fault left some few x later y later-c lacks =
    gives_fails (here (records_due turn) at a) (here (Body (Claim turn m streams)) (at + 2) c) after fault
    (streams_read turn m streams at a b c left some few x y) (later-later a b c later later-c)
    (halts_fails _ after fault (claim_halts turn m streams (at + 2) c after fault lacks))

-- and were kept in the record
pub marks_whole_as : (old : ReaderView Record) (turn : Turn) (r new : Record) (marks : List Bool) (count k at : ℕ) (source : Device ℕ)
    → k ≡ count → r.certificate.marks ≡ []
    → new ≡ record {
      modulation = r.modulation;
      job = r.job;
      certificate = record
          { vector = r.certificate.vector; distance = r.certificate.distance; marks = marks };
    }
    → GivesMarks old turn (with_marks r marks) (count - k) (at + k) source → Gives old (here (records_due (next_turn turn)) (at + count) source) (new ∷ [])
marks_whole_as old turn r new marks count k at source end none is g =
    let all : new ≡ with_marks r marks = marks_set r new marks none is in
    subst (λ n. Gives old (here (records_due (next_turn turn)) (at + n) source) (new ∷ [])) end
    (marks_whole old turn (with_marks r marks) new (count - k) (at + k) source (omega (arith, end)) all g)

-- a record whose claim was read has its number, and no marks yet
pub claim_none : (number : ℕ) (m : Modulation) (streams : ℕ) (r : Record) (a b : Device ℕ) → ReadsClaim number m streams r a b → r.certificate.marks ≡ []
unfolding claimed
claim_none number m streams r a b (octets, wide, is, taken) = ap (λ (z : Record). z.certificate.marks) is

pub claim_number : (number : ℕ) (m : Modulation) (streams : ℕ) (r : Record) (a b : Device ℕ) → ReadsClaim number m streams r a b → r.job.number ≡ number
unfolding claimed
claim_number number m streams r a b (octets, wide, is, taken) = ap (λ (z : Record). z.job.number) is

-- and a point for each stream
pub claim_points : (number : ℕ) (m : Modulation) (streams : ℕ) (r : Record) (a b : Device ℕ) → ReadsClaim number m streams r a b → HasItsPoints r
unfolding claimed
claim_points number m streams r a b (octets, wide, is, taken) =
    let t = triangle_of streams octets in
    let rows = length-rows_of t (samples_at streams octets (samples_begin streams)) ∙ length-triangle_of streams octets t refl in
    subst HasItsPoints (sym is) (length-points_at streams octets (points_begin streams) ∙ sym rows)

-- memory ran out behind fields that were taken
pub lacks_memory : (old mid : ReaderView Record) (after : Device ℕ) (items : List Record) (octets : List ℕ) → Gives old mid items
    → Takes mid.source after octets → TakesSome old.source after
lacks_memory old mid after items octets g taken =
    (g.taken ++ octets, takes-append old.source mid.source after g.taken octets g.octets taken)

-- behind the last record the file ends
pub file_ends : (turn : Turn) (at : ℕ) (a b : Device ℕ) → turn.left ≡ 0 → TakesAll a b [] → Completes (here (records_due turn) at a) b
file_ends turn at a b none all =
    subst (λ (s : StartState RecordState). Completes (here s at a) b) (sym (over_is turn none))
    (record { taken = []; octets = all; means = whole_file certificates Over at tt })

pub file_goes_on : (turn : Turn) (at : ℕ) (a b : Device ℕ) (fault : InFault) → turn.left ≡ 0 → GoesFurther at a b fault
    → Fails (here (records_due turn) at a) b fault
file_goes_on turn at a b fault none further =
    subst (λ (s : StartState RecordState). Fails (here s at a) b fault) (sym (over_is turn none))
    (halts_fails (here Over at a) b fault (further_halts certificates Over at a b fault tt further))

-- what came of a reader behind good fields
pub answer_behind : (old mid new : ReaderView Record) (r : Record) (answer : Result RecordStep InFault) → Gives old mid [] → IsLater old.source mid.source
    → MatchResult answer (λ came. GivesRecord mid new came r) (Fails mid new.source)
    → MatchResult answer (λ came. GivesRecord old new came r) (Fails old new.source)
answer_behind old mid new r (Ok Whole) g later m = gives_more old mid new [] (r ∷ []) g m
answer_behind old mid new r (Ok End) g later m = record {
  taken = g.taken ++ m.taken;
  octets = takes-all old.source mid.source new.source g.taken m.taken g.octets m.octets;
  means = g.means m.taken ∙ ap (before []) m.means;
}
answer_behind old mid new r (Err fault) g later m = gives_fails old mid new.source fault g later m
