-- The meaning of a text is that of its case.
use Rattle.std.specs.Prelude.{◌≡◌, ℕ, ◌+◌, ◌<◌, List, [], ◌∷◌, ◌++◌, length, take, Option, Some, None}
use Rattle.std.proofs.Common.{ap, ◌∙◌, sym, subst, append_assoc, arith, length-append}
use Rattle.std.proofs.lemmas.List.{append-nil}
use Rattle.std.proofs.Math.Seq.{take-append-add}
use Rattle.ht_io.specs.declared.faults.Kind.{Kind}
use Rattle.ht_io.specs.declared.faults.Kind.TheVariants.{Truncated, Trailing}
use Rattle.ht_io.specs.declared.faults.FormatFault.{FormatFault}
use Rattle.ht_fields.specs.Grammar.{Grammar, Bad}
use Rattle.ht_fields.specs.Cases.{IsShort, Leads, octets_of_fields, Reaches, IsFile, IsClean, HasTrailing, HasFault, Case, File, Clean, Longer, Faulty, Meets}
use Rattle.ht_fields.specs.Meanings.{Meaning, before, refused, meaning, fault_of}
use Rattle.ht_fields.proofs.Paths.{end_stuck, one_path}
use Rattle.ht_fields.proofs.Steps.{good_fields, whole_file, trailing_octet, early_end, bad_field}
use Rattle.ht_fields.proofs.Texts.{some_case, some_octet}

-- What is left behind good fields decides what the text means.
pub reached : {S I : Type 0} (f : Grammar S I) (octets : List ℕ) (items : List I) (offset : ℕ) (state : S) (rest : List ℕ)
    → Reaches f octets items offset state rest → meaning f f.start 0 octets ≡ before items (meaning f state offset rest)
reached f octets items offset state rest r =
    let place : 0 + length (octets_of_fields r.fields) ≡ offset = omega (arith, r.length_is) in
    ap (meaning f f.start 0) r.split
    ∙ good_fields f f.start state 0 r.fields items rest r.good
    ∙ ap (λ n. before items (meaning f state n rest)) place

-- nothing comes behind the items
pub alone : {I : Type 0} (items : List I) (fault : Option FormatFault)
    → before items (record { items = []; fault = fault }) ≡ record { items = items; fault = fault }
alone {I = I} items fault = ap (λ (z : List I). record { items = z; fault = fault }) (append-nil items)

-- The meaning of a text is that of its case.
pub met : {S I : Type 0} (f : Grammar S I) (octets : List ℕ) (items : List I) (case : Case)
    → Meets f octets items case → meaning f f.start 0 octets ≡ record { items = items; fault = fault_of (length octets) case }
met f octets items File m =
    reached f octets items m.0 m.1 [] m.2 ∙ ap (before items) (whole_file f m.1 m.0 m.3) ∙ alone items None
met f octets items Clean m =
    let r = m.3 in
    let all : length octets ≡ length (octets_of_fields r.fields) + length m.2 = ap length r.split ∙ length-append (octets_of_fields r.fields) m.2 in
    let total : m.0 + length m.2 ≡ length octets = omega (arith, all, r.length_is) in
    reached f octets items m.0 m.1 m.2 m.3
    ∙ ap (before items) (early_end f m.1 m.0 m.2 m.4 ∙ ap (refused Truncated) total)
    ∙ alone items (Some (record { kind = Truncated; offset = length octets }))
met f octets items (Longer offset) m =
    reached f octets items offset m.0 (m.1 ∷ m.2) m.3
    ∙ ap (before items) (trailing_octet f m.0 offset m.1 m.2 m.4)
    ∙ alone items (Some (record { kind = Trailing; offset = offset }))
met f octets items (Faulty kind offset) m =
    reached f octets items offset m.0 (m.1 ++ m.2) m.3
    ∙ ap (before items) (bad_field f m.0 offset m.1 m.2 kind m.4)
    ∙ alone items (Some (record { kind = kind; offset = offset }))

-- Each text meets the case that its meaning tells.
pub found : {S I : Type 0} (f : Grammar S I) (octets : List ℕ)
    → (case : Case) × Meets f octets (meaning f f.start 0 octets).items case × ((meaning f f.start 0 octets).fault ≡ fault_of (length octets) case)
found {I = I} f octets =
    let some = some_case f octets in
    let is = met f octets some.0 some.1 some.2 in
    let items : (meaning f f.start 0 octets).items ≡ some.0 = ap (λ (m : Meaning I). m.items) is in
    (some.1, subst (λ (z : List I). Meets f octets z some.1) (sym items) some.2, ap (λ (m : Meaning I). m.fault) is)

file_at : {S I : Type 0} (f : Grammar S I) (octets : List ℕ) (items : List I) (case : Case)
    → Meets f octets items case → None ≡ fault_of (length octets) case → IsFile f octets items
file_at f octets items File m e = m
file_at f octets items Clean m e = cc
file_at f octets items (Longer offset) m e = cc
file_at f octets items (Faulty kind offset) m e = cc

-- A text without a fault is a file.
pub file_found : {S I : Type 0} (f : Grammar S I) (octets : List ℕ)
    → (meaning f f.start 0 octets).fault ≡ None → IsFile f octets (meaning f f.start 0 octets).items
file_found f octets e = let w = found f octets in file_at f octets (meaning f f.start 0 octets).items w.0 w.1 (sym e ∙ w.2)

-- a field at fault begins within the text
within : {S I : Type 0} (f : Grammar S I) (octets : List ℕ) (items : List I) (kind : Kind) (offset : ℕ)
    → HasFault f octets items kind offset → offset < length octets
within f octets items kind offset m =
    let r = m.3 in
    let all : length octets ≡ length (octets_of_fields r.fields) + (length m.1 + length m.2) =
    ap length r.split ∙ (length-append (octets_of_fields r.fields) (m.1 ++ m.2) ∙ ap (λ n. length (octets_of_fields r.fields) + n) (length-append m.1 m.2)) in
    omega (arith, all, r.length_is, some_octet (f.due m.0) m.1 (Bad kind) m.4)

same_fault : (a b : FormatFault) → Some a ≡ Some b → a ≡ b
same_fault a b e = cc

clean_at : {S I : Type 0} (f : Grammar S I) (octets : List ℕ) (items : List I) (case : Case)
    → Meets f octets items case → Some (record { kind = Truncated; offset = length octets }) ≡ fault_of (length octets) case → IsClean f octets items
clean_at f octets items File m e = cc
clean_at f octets items Clean m e = m
clean_at f octets items (Longer offset) m e =
    let same = same_fault (record { kind = Truncated; offset = length octets }) (record { kind = Trailing; offset = offset }) e in
    let never : Truncated ≡ Trailing = ap (λ (z : FormatFault). z.kind) same in
    absurd cc
clean_at f octets items (Faulty kind offset) m e =
    let same = same_fault (record { kind = Truncated; offset = length octets }) (record { kind = kind; offset = offset }) e in
    let place : length octets ≡ offset = ap (λ (z : FormatFault). z.offset) same in
    absurd (omega (arith, within f octets items kind offset m))

-- A text that ends early is clean.
pub clean_found : {S I : Type 0} (f : Grammar S I) (octets : List ℕ)
    → (meaning f f.start 0 octets).fault ≡ Some (record { kind = Truncated; offset = length octets }) → IsClean f octets (meaning f f.start 0 octets).items
clean_found f octets e = let w = found f octets in clean_at f octets (meaning f f.start 0 octets).items w.0 w.1 (sym e ∙ w.2)

-- No file is a prefix of another.
pub file_prefix : {S I : Type 0} (f : Grammar S I) (octets more : List ℕ) (items others : List I)
    → IsFile f octets items → IsFile f (octets ++ more) others → more ≡ []
file_prefix f octets more items others p q =
    let front : octets ≡ octets_of_fields p.2.fields = p.2.split ∙ append-nil (octets_of_fields p.2.fields) in
    (one_path f f.start p.1 q.1 p.2.fields q.2.fields items others more [] p.2.good q.2.good
    (end_stuck (f.due p.1) more p.3) (end_stuck (f.due q.1) [] q.3) (ap (λ (z : List ℕ). z ++ more) (sym front) ∙ q.2.split)).2

-- Equal files have equal items.
pub file_items : {S I : Type 0} (f : Grammar S I) (octets : List ℕ) (items others : List I)
    → IsFile f octets items → IsFile f octets others → items ≡ others
file_items f octets items others p q =
    (one_path f f.start p.1 q.1 p.2.fields q.2.fields items others [] [] p.2.good q.2.good
    (end_stuck (f.due p.1) [] p.3) (end_stuck (f.due q.1) [] q.3) (sym p.2.split ∙ q.2.split)).0

-- A bad field stays at fault, whatever follows it.
pub bad_stays : {S I : Type 0} (f : Grammar S I) (octets : List ℕ) (items : List I) (kind : Kind) (offset : ℕ)
    → HasFault f octets items kind offset
    → (front : List ℕ) × (rest : List ℕ) × (octets ≡ front ++ rest) × (offset < length front)
    × ((other : List ℕ) → HasFault f (front ++ other) items kind offset)
bad_stays f octets items kind offset m =
    let r = m.3 in
    let front = octets_of_fields r.fields in (
      front ++ m.1,
      m.2,
      r.split ∙ sym (append_assoc front m.1 m.2),
      omega (arith, length-append front m.1, r.length_is, some_octet (f.due m.0) m.1 (Bad kind) m.4),
      λ other. (m.0, m.1, other, record { fields = r.fields; good = r.good; split = append_assoc front m.1 other; length_is = r.length_is }, m.4),
    )

-- A trailing octet stays one, whatever follows it.
pub trailing_stays : {S I : Type 0} (f : Grammar S I) (octets other : List ℕ) (items : List I) (offset : ℕ)
    → HasTrailing f octets items offset → HasTrailing f (take (offset + 1) octets ++ other) items offset
trailing_stays f octets other items offset m =
    let r = m.3 in
    let front = octets_of_fields r.fields in
    let cut : take (offset + 1) octets ≡ front ++ (m.1 ∷ []) =
    ap (take (offset + 1)) r.split ∙ (ap (λ n. take (n + 1) (front ++ (m.1 ∷ m.2))) r.length_is ∙ take-append-add front (m.1 ∷ m.2) 1) in (
      m.0,
      m.1,
      other,
      record {
        fields = r.fields;
        good = r.good;
        split =
            ap (λ z. z ++ other) cut ∙ append_assoc front (m.1 ∷ []) other;
        length_is = r.length_is;
      },
      m.4,
    )

-- Good fields, and then less than a field: no fault but the early end.
pub clean_meaning : {S I : Type 0} (f : Grammar S I) (s t : S) (at : ℕ) (fields : List (List ℕ)) (items : List I) (rest : List ℕ)
    → Leads f s fields items t → IsShort (f.due t) rest
    → meaning f s at (octets_of_fields fields ++ rest)
    ≡ record { items = items; fault = Some (record { kind = Truncated; offset = at + length (octets_of_fields fields ++ rest) }) }
clean_meaning f s t at fields items rest l short =
    let place : (at + length (octets_of_fields fields)) + length rest ≡ at + length (octets_of_fields fields ++ rest) =
    omega (arith, length-append (octets_of_fields fields) rest) in
    good_fields f s t at fields items rest l
    ∙ ap (before items) (early_end f t (at + length (octets_of_fields fields)) rest short ∙ ap (refused Truncated) place)
    ∙ alone items (Some (record { kind = Truncated; offset = at + length (octets_of_fields fields ++ rest) }))
