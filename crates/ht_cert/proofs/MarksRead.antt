-- Marks that are read many at a time.
use Rattle.std.proofs.Common.{◌≡◌, ℕ, suc, ◌+◌, ◌-◌, ◌<◌, ◌≤◌, List, [], ◌∷◌, ◌++◌, length, map, take, Bool, inl, inr, refl, sym, ap, subst, ◌∙◌, arith}
use Rattle.std.proofs.lemmas.List.{length-map}
use Rattle.ht_io.specs.Devices.{Device, Takes, IsLater}
use Rattle.ht_io.proofs.Calls.{later-later}
use Rattle.ht_io.specs.declared.faults.InFault.{InFault}
use Rattle.ht_fields.specs.Readers.{ReaderView, Gives}
use Rattle.ht_fields.specs.Tests.{AreLow}
use Rattle.ht_fields.proofs.Joins.{gives_more}
use Rattle.ht_fields.proofs.Routes.{Route, route_from, route_gives, route_none, route_then}
use Rattle.ht_heads.specs.Starts.{Body}
use Rattle.ht_cert.specs.declared.record.Record.{Record}
use Rattle.ht_cert.specs.declared.turn.Turn.{Turn}
use Rattle.ht_cert.specs.Records.{with_marks}
use Rattle.ht_cert.specs.Formats.{Mark, certificates, marks_due, marks_given}
use Rattle.ht_cert.specs.Files.{mark_octet}
use Rattle.ht_cert.specs.Readers.{Fails, FailsMarks, ReadsMarks, here, is_open}
use Rattle.ht_cert.proofs.Reading.{GivesMarks, gives_marks_as, lacks_memory, mark_failed, marks_then, no_marks_more}
use Rattle.ht_cert.proofs.Routes.{mark_back, mark_is, none_given, one_mark, route_mark}

-- octets that are marks are those of what they say
pub marks_back : (octets : List ℕ) → AreLow 1 octets → map mark_octet (map is_open octets) ≡ octets
marks_back [] low = refl
marks_back (x ∷ xs) low =
    let first : x ≤ 1 = low 0 0 (omega arith) in
    let rest : AreLow 1 xs = λ k d below. low (suc k) d (omega (arith, below)) in
    ap (λ y. y ∷ map mark_octet (map is_open xs)) (mark_back x first) ∙ ap (λ (ys : List ℕ). x ∷ ys) (marks_back xs rest)

-- the marks of octets were added
pub marks_added : (octets : List ℕ) (count : ℕ) (held now marks : List Bool) (source after : Device ℕ) → length octets ≡ count → AreLow 1 octets
    → take (length octets) marks ≡ map is_open octets → now ≡ held ++ take count marks → Takes source after octets → ReadsMarks count held now source after
marks_added octets count held now marks source after len low read is taken = (
  map is_open octets,
  length-map octets is_open ∙ len,
  is ∙ ap (λ (z : List Bool). held ++ z) (ap (λ n. take n marks) (sym len) ∙ read),
  subst (λ (z : List ℕ). Takes source after z) (sym (marks_back octets low)) taken,
)

-- where some marks, or none, were read, and this number was left
abbrev SomeMarks : Turn → Record → ℕ → List ℕ → Record → ℕ → Type 0
SomeMarks turn r left octets now after = Route certificates (marks_due turn r left) (marks_due turn now after) octets (marks_given now after)

some_marks_as : (turn : Turn) (r now now' : Record) (left after after' : ℕ) (octets : List ℕ) → now ≡ now' → after ≡ after'
    → SomeMarks turn r left octets now after → SomeMarks turn r left octets now' after'
some_marks_as turn r now now' left after after' octets e f route =
    subst (λ (x : Record). SomeMarks turn r left octets x after') e (subst (λ (n : ℕ). SomeMarks turn r left octets now n) f route)

some_marks : (marks : List Bool) (turn : Turn) (r : Record) (left : ℕ) → 0 < left → length marks ≤ left
    → SomeMarks turn r left (map mark_octet marks) (with_marks r marks) (left - length marks)
some_marks [] turn r left some few =
    let same : SomeMarks turn r left [] r left =
    subst (λ (items : List Record). Route certificates (marks_due turn r left) (marks_due turn r left) [] items) (sym (none_given r left some))
    (route_none certificates (marks_due turn r left) (marks_due turn r left) refl) in
    some_marks_as turn r r (with_marks r []) left left (left - 0) [] (sym (no_marks_more r)) (omega arith) same
some_marks (m ∷ []) turn r left some few =
    route_from certificates (marks_due turn r left) (Body (Mark turn r left)) _ (mark_octet m ∷ []) _ (mark_is turn r left some) (route_mark turn r left m)
some_marks (m ∷ n ∷ ms) turn r left some few =
    let one = one_mark r m in
    let rest : SomeMarks turn one (left - 1) (map mark_octet (n ∷ ms)) (with_marks one (n ∷ ms)) (left - 1 - length (n ∷ ms)) =
    some_marks (n ∷ ms) turn one (left - 1) (omega (arith, few)) (omega (arith, few)) in
    let first : Route certificates (marks_due turn r left) (marks_due turn one (left - 1)) (mark_octet m ∷ []) [] =
    route_from certificates (marks_due turn r left) (Body (Mark turn r left)) _ (mark_octet m ∷ []) _ (mark_is turn r left some)
    (subst (λ (items : List Record). Route certificates (Body (Mark turn r left)) (marks_due turn one (left - 1)) (mark_octet m ∷ []) items)
    (none_given one (left - 1) (omega (arith, few))) (route_mark turn r left m)) in
    some_marks_as turn r (with_marks one (n ∷ ms)) (with_marks r (m ∷ n ∷ ms)) left (left - 1 - length (n ∷ ms)) (left - length (m ∷ n ∷ ms))
    (map mark_octet (m ∷ n ∷ ms)) (marks_then r (m ∷ []) (n ∷ ms)) (omega (arith, few))
    (route_then certificates (marks_due turn r left) (marks_due turn one (left - 1)) _ (mark_octet m ∷ []) (map mark_octet (n ∷ ms)) [] _ first rest)

-- some marks were read, or none
marks_given_more : (old : ReaderView Record) (turn : Turn) (r : Record) (left at : ℕ) (marks : List Bool) (source after : Device ℕ)
    → 0 < left → length marks ≤ left → GivesMarks old turn r left at source → Takes source after (map mark_octet marks)
    → GivesMarks old turn (with_marks r marks) (left - length marks) (at + length marks) after
marks_given_more old turn r left at marks source after some few g taken =
    let place : at + length marks ≡ at + length (map mark_octet marks) = ap (λ n. at + n) (sym (length-map marks mark_octet)) in
    let before : Gives old (here (marks_due turn r left) at source) [] =
    subst (λ (items : List Record). Gives old (here (marks_due turn r left) at source) items) (none_given r left some) g in
    gives_more old (here (marks_due turn r left) at source) _ [] (marks_given (with_marks r marks) (left - length marks)) before
    (route_gives certificates (marks_due turn r left) (marks_due turn (with_marks r marks) (left - length marks)) (map mark_octet marks) _
    at (at + length marks) source after (some_marks marks turn r left some few) place taken)

-- this number of marks was read
pub marks_read : (old : ReaderView Record) (turn : Turn) (r : Record) (count k more at : ℕ) (held now : List Bool) (source after : Device ℕ)
    → k < count → more ≤ count - k → GivesMarks old turn (with_marks r held) (count - k) (at + k) source → ReadsMarks more held now source after
    → GivesMarks old turn (with_marks r now) (count - (k + more)) (at + (k + more)) after
marks_read old turn r count k more at held now source after lt few g (marks, len, is, taken) =
    let all : with_marks (with_marks r held) marks ≡ with_marks r now = marks_then r held marks ∙ ap (with_marks r) (sym is) in
    gives_marks_as old turn (with_marks (with_marks r held) marks) (with_marks r now) (count - k - length marks) (count - (k + more))
    (at + k + length marks) (at + (k + more)) after all (omega (arith, len, few)) (omega (arith, len))
    (marks_given_more old turn (with_marks r held) (count - k) (at + k) marks source after (omega (arith, lt)) (omega (arith, len, few)) g taken)

-- of this number of marks one was not read, or memory ran out
pub marks_failed : (old : ReaderView Record) (turn : Turn) (r : Record) (count k more at : ℕ) (source after : Device ℕ) (fault : InFault)
    → k < count → more ≤ count - k → GivesMarks old turn r (count - k) at source → IsLater old.source source
    → FailsMarks more at source after fault → Fails old after fault
marks_failed old turn r count k more at source after fault lt few g later (inr (is, (octets, taken))) =
    subst (λ (f : InFault). Fails old after f) (sym is) (lacks_memory old _ after _ octets g taken)
marks_failed old turn r count k more at source after fault lt few g later (inl (front, fewer, low, (between, taken, then, fails))) =
    let marks = map is_open front in
    let len : length marks ≡ length front = length-map front is_open in
    let as_marks : Takes source between (map mark_octet marks) = subst (λ (z : List ℕ). Takes source between z) (sym (marks_back front low)) taken in
    let so_far : GivesMarks old turn (with_marks r marks) (count - k - length marks) (at + length marks) between =
    marks_given_more old turn r (count - k) at marks source between (omega (arith, lt)) (omega (arith, len, few, fewer)) g as_marks in
    mark_failed old turn (with_marks r marks) count (k + length front) (at + length front) between after fault (omega (arith, few, fewer, lt))
    (gives_marks_as old turn (with_marks r marks) (with_marks r marks) (count - k - length marks) (count - (k + length front))
    (at + length marks) (at + length front) between refl (omega (arith, len, few, fewer, lt)) (omega (arith, len)) so_far)
    (later-later old.source source between later then) fails
