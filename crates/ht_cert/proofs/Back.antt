-- Each file of certificates is the one that is written of its records: what was read up to any field.
use Rattle.std.specs.Prelude.{⊤}
use Rattle.std.proofs.Common.{◌≡◌, inl, inr, ℕ, zero, suc, ◌+◌, ◌-◌, ◌<◌, ◌≤◌, List, [], ◌∷◌, ◌++◌, length, map, flat_map, Bool, nat_eq, nat_lt}
use Rattle.std.proofs.Common.{refl, sym, ap, subst, ◌∙◌, append_assoc, length-append, arith}
use Rattle.std.proofs.lemmas.Bool.{cases_Bool}
use Rattle.std.proofs.lemmas.Bool.Decides.{nat_tests}
use Rattle.std.proofs.lemmas.List.{append-nil, map-append}
use Rattle.std.proofs.lemmas.Grind.{flat_map-append}
use Rattle.byteorder.specs.Endian.{big_bytes, big_number}
use Rattle.ht_io.specs.declared.faults.Kind.TheVariants.{BadMagic, BadVersion, BadLength, BadModulation, BadStreams, BadMark}
use Rattle.ht_fields.specs.Grammar.{Good}
use Rattle.ht_fields.specs.Cases.{IsEnd, IsField, IsFile, Leads, octets_of_fields}
use Rattle.ht_fields.specs.Tests.{AreBytes, differs, is_above, octet_of}
use Rattle.ht_heads.specs.Starts.{StartState, Magic, Version, Count, Body, Over, good_count, good_magic, good_version, is_outside, magic_due, started_octets}
use Rattle.ht_heads.proofs.Counts.{bytes_back_as}
use Rattle.ht_counted.proofs.Passing.{at_most, bytes_behind, bytes_front, neither, not_none, passed, same_good, single, wanted_is, within}
use Rattle.ht_rate.specs.declared.kinds.Modulation.{Modulation}
use Rattle.ht_cert.specs.declared.record.Record.{Record}
use Rattle.ht_cert.specs.declared.turn.Turn.{Turn}
use Rattle.ht_cert.specs.Records.{claim_width, claimed, code_of, modulation_at, with_marks}
use Rattle.ht_cert.specs.Formats.{RecordState, Modulated, Streams, Claim, Marks, Mark, certificates, certificates_magic, first_due, is_no_streams, mark_limits}
use Rattle.ht_cert.specs.Formats.{good_claim, good_mark, good_marks, good_modulation, good_streams, marks_due, marks_given, next_turn, record_limits}
use Rattle.ht_cert.specs.Formats.{recorded, records_due}
use Rattle.ht_cert.specs.Files.{AreNumbered, AreRecords, IsRecord, certificates_file_of, claim_octets, front_octets, mark_octet, record_octets, records_start}
use Rattle.ht_cert.proofs.Encoded.{claim_encoded}
use Rattle.ht_cert.proofs.Routes.{mark_back, mark_is, none_given, one_given, over_is, record_is, whole_is}

abbrev State : Type 0
State = StartState RecordState

-- the octets of the record under way that were read
abbrev done : RecordState → List ℕ
done (Modulated turn) = []
done (Streams turn m) = code_of m ∷ []
done (Claim turn m streams) = code_of m ∷ streams ∷ []
done (Marks turn r) = code_of r.modulation ∷ length r.job.system ∷ claim_octets r
done (Mark turn r left) =
    (code_of r.modulation ∷ length r.job.system ∷ (claim_octets r ++ big_bytes 4 (length r.certificate.marks + left))) ++ map mark_octet r.certificate.marks

abbrev turn_of : RecordState → Turn
turn_of (Modulated turn) = turn
turn_of (Streams turn m) = turn
turn_of (Claim turn m streams) = turn
turn_of (Marks turn r) = turn
turn_of (Mark turn r left) = turn

-- what is known of it
abbrev Held : RecordState → Type 0
Held (Modulated turn) = ⊤
Held (Streams turn m) = ⊤
Held (Claim turn m streams) = (1 ≤ streams) × (streams ≤ 4)
Held (Marks turn r) = IsRecord turn.number r × (r.certificate.marks ≡ [])
Held (Mark turn r left) = IsRecord turn.number r × (0 < left) × (length r.certificate.marks + left ≤ 33554432)

-- the octets are what is written of these records, and then these
record InRecords (turn : Turn) (octets : List ℕ) (records : List Record) (behind : List ℕ) : Type 0 where
  count : ℕ
  few : count ≤ 137438953472
  size : length records ≡ turn.number
  all : turn.number + turn.left ≡ count
  numbered : AreNumbered 0 records
  is : octets ≡ (records_start count ++ flat_map record_octets records) ++ behind

-- what was read in a state
abbrev Came : State → List ℕ → List Record → Type 0
Came (Magic x xs) octets records = (octets ++ (x ∷ xs) ≡ certificates_magic) × (records ≡ [])
Came Version octets records = (octets ≡ certificates_magic) × (records ≡ [])
Came Count octets records = (octets ≡ certificates_magic ++ (1 ∷ [])) × (records ≡ [])
Came (Body b) octets records = Held b × (0 < (turn_of b).left) × InRecords (turn_of b) octets records (done b)
Came Over octets records = (turn : Turn) × (turn.left ≡ 0) × InRecords turn octets records []

arrive : (s t : State) (octets : List ℕ) (records xs ys : List Record) → s ≡ t → xs ≡ ys → Came s octets (records ++ xs) → Came t octets (records ++ ys)
arrive s t octets records xs ys e f c = subst (λ (z : List Record). Came t octets (records ++ z)) f (subst (λ (z : State). Came z octets (records ++ xs)) e c)

come_none : (s : State) (octets : List ℕ) (records : List Record) → Came s octets records → Came s octets (records ++ [])
come_none s octets records c = subst (λ (z : List Record). Came s octets z) (sym (append-nil records)) c

-- the next record, or the end
came_due : (turn : Turn) (octets : List ℕ) (records : List Record) → InRecords turn octets records [] → Came (records_due turn) octets records
came_due turn octets records i =
    elim (cases_Bool (nat_eq turn.left 0)) [
      | inl t ↦
          let none : turn.left ≡ 0 = grind (arith, nat_tests) in
          subst (λ (s : State). Came s octets records) (sym (over_is turn none)) (turn, none, i)
      | inr f ↦
          let some : 0 < turn.left = grind (arith, nat_tests) in
          subst (λ (s : State). Came s octets records) (sym (record_is turn some)) (tt, some, i)
    ]

-- more octets of the record under way
in_more : (turn : Turn) (octets : List ℕ) (records : List Record) (behind x now : List ℕ) → behind ++ x ≡ now
    → InRecords turn octets records behind → InRecords turn (octets ++ x) records now
in_more turn octets records behind x now e i = record {
  count = i.count;
  few = i.few;
  size = i.size;
  all = i.all;
  numbered = i.numbered;
  is = ap (λ z. z ++ x) i.is ∙ (append_assoc (records_start i.count ++ flat_map record_octets records) behind x
      ∙ ap (λ z. (records_start i.count ++ flat_map record_octets records) ++ z) e);
}

numbered_more : (n : ℕ) (records : List Record) (r : Record) → AreNumbered n records → IsRecord (n + length records) r → AreNumbered n (records ++ r ∷ [])
numbered_more n [] r are is = let e : n + 0 ≡ n = omega arith in (subst (λ k. IsRecord k r) e is, tt)
numbered_more n (x ∷ xs) r are is =
    let e : n + length (x ∷ xs) ≡ n + 1 + length xs = omega arith in
    (are.0, numbered_more (n + 1) xs r are.1 (subst (λ k. IsRecord k r) e is))

-- a record is whole
in_next : (turn : Turn) (octets : List ℕ) (records : List Record) (r : Record) → 0 < turn.left → IsRecord turn.number r
    → InRecords turn octets records (record_octets r) → InRecords (next_turn turn) octets (records ++ r ∷ []) []
unfolding next_turn
in_next turn octets records r left fits i =
    let size : 0 + length records ≡ turn.number = omega (arith, i.size) in record {
      count = i.count;
      few = i.few;
      size = omega (arith, i.size, length-append records (r ∷ []));
      all = omega (arith, i.all, left);
      numbered = numbered_more 0 records r i.numbered (subst (λ k. IsRecord k r) (sym size) fits);
      is = i.is ∙ (append_assoc (records_start i.count) (flat_map record_octets records) (record_octets r)
          ∙ (ap (λ z. records_start i.count ++ z) (ap (λ z. flat_map record_octets records ++ z) (sym (append-nil (record_octets r)))
          ∙ sym (flat_map-append record_octets records (r ∷ [])))
          ∙ sym (append-nil (records_start i.count ++ flat_map record_octets (records ++ r ∷ [])))));
    }

-- behind the number of marks, or a mark
came_marks : (turn : Turn) (r : Record) (left : ℕ) (octets : List ℕ) (records : List Record) → 0 < turn.left → IsRecord turn.number r
    → length r.certificate.marks + left ≤ 33554432 → InRecords turn octets records (done (Mark turn r left))
    → Came (marks_due turn r left) octets (records ++ marks_given r left)
unfolding record_octets front_octets
came_marks turn r left octets records some fits few i =
    elim (cases_Bool (nat_eq left 0)) [
      | inl t ↦
          let none : left ≡ 0 = grind (arith, nat_tests) in
          let marks = r.certificate.marks in
          let all : length marks + left ≡ length marks = omega (arith, none) in
          let is : done (Mark turn r left) ≡ record_octets r =
          ap (λ n. (code_of r.modulation ∷ length r.job.system ∷ (claim_octets r ++ big_bytes 4 n)) ++ map mark_octet marks) all in
          arrive (records_due (next_turn turn)) (marks_due turn r left) octets records (r ∷ []) (marks_given r left)
          (sym (whole_is turn r left none)) (sym (one_given r left none))
          (came_due (next_turn turn) octets (records ++ r ∷ [])
          (in_next turn octets records r some fits (subst (λ (z : List ℕ). InRecords turn octets records z) is i)))
      | inr f ↦
          let more : 0 < left = grind (arith, nat_tests) in
          arrive (Body (Mark turn r left)) (marks_due turn r left) octets records [] (marks_given r left)
          (sym (mark_is turn r left more)) (sym (none_given r left more))
          (come_none (Body (Mark turn r left)) octets records ((fits, more, few), some, i))
    ]

code_back : (code : ℕ) → code ≤ 3 → code_of (modulation_at code) ≡ code
code_back zero low = refl
code_back (suc zero) low = refl
code_back (suc (suc zero)) low = refl
code_back (suc (suc (suc zero))) low = refl
code_back (suc (suc (suc (suc n)))) low = absurd (omega (arith, low))

-- a field of a record
step_modulation : (turn : Turn) (x octets : List ℕ) (t : State) (records here : List Record) → Came (Body (Modulated turn)) octets records
    → IsField (certificates.due (Body (Modulated turn))) x (Good t here) → Came t (octets ++ x) (records ++ here)
unfolding good_modulation
step_modulation turn x octets t records here (held, some, i) (size, good) =
    let p = passed BadModulation (is_above 3) (good_modulation turn) x t here good in
    let code = octet_of x in
    let low : code ≤ 3 = at_most 3 code p.0 in
    let s = Body (Streams turn (modulation_at code)) in
    let same = same_good s t [] here p.1 in
    let e : [] ++ x ≡ code_of (modulation_at code) ∷ [] = single x size ∙ ap (λ c. c ∷ []) (sym (code_back code low)) in
    arrive s t (octets ++ x) records [] here same.0 same.1
    (come_none s (octets ++ x) records (tt, some, in_more turn octets records [] x (code_of (modulation_at code) ∷ []) e i))

step_streams : (turn : Turn) (m : Modulation) (x octets : List ℕ) (t : State) (records here : List Record) → Came (Body (Streams turn m)) octets records
    → IsField (certificates.due (Body (Streams turn m))) x (Good t here) → Came t (octets ++ x) (records ++ here)
unfolding good_streams
step_streams turn m x octets t records here (held, some, i) (size, good) =
    let p = passed BadStreams is_no_streams (good_streams turn m) x t here good in
    let n = octet_of x in
    let both = neither (nat_eq n 0) (nat_lt 4 n) p.0 in
    let low : 1 ≤ n = not_none n both.0 in
    let few : n ≤ 4 = at_most 4 n both.1 in
    let s = Body (Claim turn m n) in
    let same = same_good s t [] here p.1 in
    let e : (code_of m ∷ []) ++ x ≡ code_of m ∷ n ∷ [] = ap (λ (z : List ℕ). code_of m ∷ z) (single x size) in
    arrive s t (octets ++ x) records [] here same.0 same.1
    (come_none s (octets ++ x) records ((low, few), some, in_more turn octets records (code_of m ∷ []) x (code_of m ∷ n ∷ []) e i))

step_claim : (turn : Turn) (m : Modulation) (streams : ℕ) (x octets : List ℕ) (t : State) (records here : List Record) → AreBytes x
    → Came (Body (Claim turn m streams)) octets records
    → IsField (certificates.due (Body (Claim turn m streams))) x (Good t here) → Came t (octets ++ x) (records ++ here)
unfolding good_claim claimed
step_claim turn m streams x octets t records here bytes (held, some, i) (size, good) =
    let wide : length x ≡ claim_width streams = omega (arith, size) in
    let enc = claim_encoded turn.number m streams x held.0 held.1 wide bytes in
    let r = claimed turn.number m streams x in
    let s = Body (Marks turn r) in
    let same = same_good s t [] here good in
    let e : (code_of m ∷ streams ∷ []) ++ x ≡ code_of m ∷ length r.job.system ∷ claim_octets r =
    ap (λ n. code_of m ∷ n ∷ x) (sym enc.1) ∙ ap (λ (z : List ℕ). code_of m ∷ length r.job.system ∷ z) (sym enc.2) in
    arrive s t (octets ++ x) records [] here same.0 same.1
    (come_none s (octets ++ x) records ((enc.0, refl), some, in_more turn octets records (code_of m ∷ streams ∷ []) x _ e i))

step_marks : (turn : Turn) (r : Record) (x octets : List ℕ) (t : State) (records here : List Record) → AreBytes x
    → Came (Body (Marks turn r)) octets records
    → IsField (certificates.due (Body (Marks turn r))) x (Good t here) → Came t (octets ++ x) (records ++ here)
unfolding good_marks
step_marks turn r x octets t records here bytes (held, some, i) (size, good) =
    let p = passed BadLength (is_outside mark_limits) (good_marks turn r) x t here good in
    let n = big_number 4 x in
    let marks = r.certificate.marks in
    let few : n ≤ 33554432 = (within mark_limits x p.0).1 in
    let same = same_good (marks_due turn r n) t (marks_given r n) here p.1 in
    let none : length marks ≡ 0 = ap length held.1 in
    let all : length marks + n ≡ n = omega (arith, none) in
    let back : big_bytes 4 n ≡ x = bytes_back_as x 4 n size refl bytes in
    let front : List ℕ = code_of r.modulation ∷ length r.job.system ∷ claim_octets r in
    let e : front ++ x ≡ done (Mark turn r n) =
    ap (λ z. front ++ z) (sym back)
    ∙ (ap (λ k. front ++ big_bytes 4 k) (sym all)
    ∙ (sym (append-nil (front ++ big_bytes 4 (length marks + n)))
    ∙ ap (λ (z : List Bool). (front ++ big_bytes 4 (length marks + n)) ++ map mark_octet z) (sym held.1))) in
    arrive (marks_due turn r n) t (octets ++ x) records (marks_given r n) here same.0 same.1
    (came_marks turn r n (octets ++ x) records some held.0 (omega (arith, none, few)) (in_more turn octets records front x (done (Mark turn r n)) e i))

with_mark_fits : (number : ℕ) (r : Record) (more : List Bool) → IsRecord number r → length (r.certificate.marks ++ more) ≤ 33554432
    → IsRecord number (with_marks r more)
unfolding with_marks
with_mark_fits number r more fits few = record {
  number_is = fits.number_is;
  place = fits.place;
  grid = fits.grid;
  some = fits.some;
  few = fits.few;
  legs_are = fits.legs_are;
  samples_are = fits.samples_are;
  points = fits.points;
  points_are = fits.points_are;
  distance = fits.distance;
  marks = few;
}

step_mark : (turn : Turn) (r : Record) (left : ℕ) (x octets : List ℕ) (t : State) (records here : List Record)
    → Came (Body (Mark turn r left)) octets records
    → IsField (certificates.due (Body (Mark turn r left))) x (Good t here) → Came t (octets ++ x) (records ++ here)
unfolding good_mark with_marks claim_octets
step_mark turn r left x octets t records here (held, some, i) (size, good) =
    let p = passed BadMark (is_above 1) (good_mark turn r left) x t here good in
    let mark = octet_of x in
    let low : mark ≤ 1 = at_most 1 mark p.0 in
    let bit = nat_eq mark 1 in
    let marks = r.certificate.marks in
    let next = with_marks r (bit ∷ []) in
    let same = same_good (marks_due turn next (left - 1)) t (marks_given next (left - 1)) here p.1 in
    let more : length (marks ++ bit ∷ []) ≡ length marks + 1 = length-append marks (bit ∷ []) in
    let total : length (marks ++ bit ∷ []) + (left - 1) ≡ length marks + left = omega (arith, more, held.1) in
    let front : ℕ → List ℕ = λ n. code_of r.modulation ∷ length r.job.system ∷ (claim_octets r ++ big_bytes 4 n) in
    let octet : x ≡ mark_octet bit ∷ [] = single x size ∙ ap (λ c. c ∷ []) (sym (mark_back mark low)) in
    let all : map mark_octet marks ++ x ≡ map mark_octet (marks ++ bit ∷ []) =
    ap (λ (z : List ℕ). map mark_octet marks ++ z) octet ∙ sym (map-append mark_octet marks (bit ∷ [])) in
    let e : done (Mark turn r left) ++ x ≡ done (Mark turn next (left - 1)) =
    append_assoc (front (length marks + left)) (map mark_octet marks) x
    ∙ (ap (λ (z : List ℕ). front (length marks + left) ++ z) all
    ∙ ap (λ n. front n ++ map mark_octet (marks ++ bit ∷ [])) (sym total)) in
    let few : length (marks ++ bit ∷ []) ≤ 33554432 = omega (arith, more, held.1, held.2) in
    arrive (marks_due turn next (left - 1)) t (octets ++ x) records (marks_given next (left - 1)) here same.0 same.1
    (came_marks turn next (left - 1) (octets ++ x) records some (with_mark_fits turn.number r (bit ∷ []) held.0 few)
    (omega (arith, total, held.2)) (in_more turn octets records (done (Mark turn r left)) x (done (Mark turn next (left - 1))) e i))

-- a field in front of the records
magic_left : (ys octets : List ℕ) (records : List Record) → octets ++ ys ≡ certificates_magic → records ≡ [] → Came (magic_due ys) octets records
magic_left [] octets records is none = (sym (append-nil octets) ∙ is, none)
magic_left (y ∷ ys) octets records is none = (is, none)

step_magic : (y : ℕ) (ys x octets : List ℕ) (t : State) (records here : List Record) → Came (Magic y ys) octets records
    → IsField (certificates.due (Magic y ys)) x (Good t here) → Came t (octets ++ x) (records ++ here)
unfolding good_magic
step_magic y ys x octets t records here (is, none) (size, good) =
    let p = passed BadMagic (differs y) (good_magic ys) x t here good in
    let same = same_good (magic_due ys) t [] here p.1 in
    let octet : x ≡ y ∷ [] = wanted_is y x size p.0 in
    let all : (octets ++ x) ++ ys ≡ certificates_magic =
    append_assoc octets x ys ∙ (ap (λ (z : List ℕ). octets ++ (z ++ ys)) octet ∙ is) in
    arrive (magic_due ys) t (octets ++ x) records [] here same.0 same.1
    (come_none (magic_due ys) (octets ++ x) records (magic_left ys (octets ++ x) records all none))

step_version : (x octets : List ℕ) (t : State) (records here : List Record) → Came Version octets records
    → IsField (certificates.due Version) x (Good t here) → Came t (octets ++ x) (records ++ here)
unfolding good_version
step_version x octets t records here (is, none) (size, good) =
    let p = passed BadVersion (differs 1) good_version x t here good in
    let same = same_good Count t [] here p.1 in
    let octet : x ≡ 1 ∷ [] = wanted_is 1 x size p.0 in
    arrive Count t (octets ++ x) records [] here same.0 same.1
    (come_none Count (octets ++ x) records (ap (λ (z : List ℕ). z ++ x) is ∙ ap (λ (z : List ℕ). certificates_magic ++ z) octet, none))

step_count : (x octets : List ℕ) (t : State) (records here : List Record) → AreBytes x → Came Count octets records
    → IsField (certificates.due Count) x (Good t here) → Came t (octets ++ x) (records ++ here)
unfolding good_count started_octets
step_count x octets t records here bytes (is, none) (size, good) =
    let p = passed BadLength (is_outside record_limits) (good_count recorded) x t here good in
    let n = big_number 8 x in
    let few : n ≤ 137438953472 = (within record_limits x p.0).1 in
    let turn : Turn = record { left = n; number = 0 } in
    let same = same_good (first_due n) t [] here p.1 in
    let back : big_bytes 8 n ≡ x = bytes_back_as x 8 n size refl bytes in
    let all : octets ++ x ≡ (records_start n ++ flat_map record_octets []) ++ [] =
    ap (λ (z : List ℕ). z ++ x) is
    ∙ (append_assoc certificates_magic (1 ∷ []) x
    ∙ (ap (λ (z : List ℕ). certificates_magic ++ (1 ∷ z)) (sym back) ∙ (sym (append-nil (records_start n)) ∙ sym (append-nil (records_start n ++ []))))) in
    let i : InRecords turn (octets ++ x) [] [] = record { count = n; few = few; size = refl; all = omega arith; numbered = tt; is = all } in
    arrive (first_due n) t (octets ++ x) records [] here same.0 same.1
    (come_none (first_due n) (octets ++ x) records
    (subst (λ (z : List Record). Came (first_due n) (octets ++ x) z) (sym none) (came_due turn (octets ++ x) [] i)))

step : (s t : State) (x octets : List ℕ) (records here : List Record) → AreBytes x → Came s octets records
    → IsField (certificates.due s) x (Good t here) → Came t (octets ++ x) (records ++ here)
step (Magic y ys) t x octets records here bytes c f = step_magic y ys x octets t records here c f
step Version t x octets records here bytes c f = step_version x octets t records here c f
step Count t x octets records here bytes c f = step_count x octets t records here bytes c f
step (Body (Modulated turn)) t x octets records here bytes c f = step_modulation turn x octets t records here c f
step (Body (Streams turn m)) t x octets records here bytes c f = step_streams turn m x octets t records here c f
step (Body (Claim turn m streams)) t x octets records here bytes c f = step_claim turn m streams x octets t records here bytes c f
step (Body (Marks turn r)) t x octets records here bytes c f = step_marks turn r x octets t records here bytes c f
step (Body (Mark turn r left)) t x octets records here bytes c f = step_mark turn r left x octets t records here c f
step Over t x octets records here bytes c f = absurd f

-- all good fields
come : (fields : List (List ℕ)) (s t : State) (octets : List ℕ) (records items : List Record) → AreBytes (octets_of_fields fields) → Came s octets records
    → Leads certificates s fields items t → Came t (octets ++ octets_of_fields fields) (records ++ items)
come [] s t octets records items bytes c l =
    subst (λ (z : List ℕ). Came t z (records ++ items)) (sym (append-nil octets))
    (arrive s t octets records [] items l.1 (sym l.0) (come_none s octets records c))
come (x ∷ xs) s t octets records items bytes c l =
    let rest = octets_of_fields xs in
    let first = step s l.0 x octets records l.1 (bytes_front x rest bytes) c l.3 in
    let later = come xs l.0 t (octets ++ x) (records ++ l.1) l.2 (bytes_behind x rest bytes) first l.4 in
    subst (λ (z : List Record). Came t (octets ++ (x ++ rest)) z) (append_assoc records l.1 l.2 ∙ ap (λ (z : List Record). records ++ z) (sym l.5))
    (subst (λ (z : List ℕ). Came t z ((records ++ l.1) ++ l.2)) (append_assoc octets x rest) later)

-- at the end
at_end : (t : State) (octets : List ℕ) (records : List Record) → IsEnd (certificates.due t) → Came t octets records
    → AreRecords records × (octets ≡ certificates_file_of records)
unfolding certificates_file_of
at_end (Magic y ys) octets records e c = absurd e
at_end Version octets records e c = absurd e
at_end Count octets records e c = absurd e
at_end (Body (Modulated turn)) octets records e c = absurd e
at_end (Body (Streams turn m)) octets records e c = absurd e
at_end (Body (Claim turn m streams)) octets records e c = absurd e
at_end (Body (Marks turn r)) octets records e c = absurd e
at_end (Body (Mark turn r left)) octets records e c = absurd e
at_end Over octets records e (turn, none, i) =
    let count : i.count ≡ length records = omega (arith, i.all, i.size, none) in (
      record { few = omega (arith, count, i.few); numbered = i.numbered },
      i.is ∙ (append-nil (records_start i.count ++ flat_map record_octets records) ∙ ap (λ n. records_start n ++ flat_map record_octets records) count),
    )

pub file_back : (octets : List ℕ) (records : List Record) → AreBytes octets → IsFile certificates octets records
    → AreRecords records × (octets ≡ certificates_file_of records)
file_back octets records bytes (offset, state, reaches, e) =
    let all : octets ≡ octets_of_fields reaches.fields = reaches.split ∙ append-nil (octets_of_fields reaches.fields) in
    let first : Came certificates.start [] [] = (refl, refl) in
    let c : Came state (octets_of_fields reaches.fields) records =
    come reaches.fields certificates.start state [] [] records (subst AreBytes all bytes) first reaches.good in
    let back = at_end state (octets_of_fields reaches.fields) records e c in
    (back.0, all ∙ back.1)
