-- How the octets of a record lead through the fields of a file, and why they don't.
use Rattle.std.proofs.Common.{zero, suc, ◌≡◌, ℕ, ◌-◌, ◌^◌, ◌<◌, ◌≤◌, List, [], ◌∷◌, ◌++◌, length, Bool, true, false, nat_eq, nat_lt, ◌||◌}
use Rattle.std.proofs.Common.{refl, ap, ◌∙◌, arith}
use Rattle.std.proofs.lemmas.Bool.Decides.{nat_tests}
use Rattle.byteorder.specs.Endian.{big_bytes, big_number}
use Rattle.byteorder.specs.Numbers.{big_number-reads_back}
use Rattle.ht_io.specs.Devices.{Device, IsLater}
use Rattle.ht_io.proofs.Calls.{takes-append}
use Rattle.ht_io.specs.declared.faults.InFault.{InFault}
use Rattle.ht_io.specs.declared.faults.InFault.TheVariants.{Format, Read, NoMemory}
use Rattle.ht_io.specs.declared.faults.Kind.TheVariants.{BadLength, BadModulation, BadStreams, BadMark}
use Rattle.ht_fields.specs.Grammar.{Verdict, Good}
use Rattle.ht_fields.specs.Lacking.{FailsField, LacksField}
use Rattle.ht_fields.specs.Readers.{ReaderView, Gives}
use Rattle.ht_fields.specs.Tests.{is_above}
use Rattle.ht_fields.specs.WholeFiles.{StopsWithCause}
use Rattle.ht_fields.proofs.Choices.{when_true, when_false, checked_good}
use Rattle.ht_fields.proofs.Halting.{fails_halts, gives_halts, judges_checked, lacks_halts}
use Rattle.ht_fields.proofs.Readers.{field_is, width_is}
use Rattle.ht_fields.proofs.Routes.{Route, route_field}
use Rattle.ht_heads.specs.Starts.{StartState, Body, Over, is_outside}
use Rattle.ht_heads.proofs.Leading.{not_above}
use Rattle.ht_heads.proofs.Started.{inside}
use Rattle.ht_rate.specs.declared.kinds.Modulation.{Modulation}
use Rattle.ht_rate.specs.declared.kinds.Modulation.TheVariants.{Bpsk, Qpsk, Qam16, Qam64}
use Rattle.ht_cert.specs.declared.record.Record.{Record}
use Rattle.ht_cert.specs.declared.turn.Turn.{Turn}
use Rattle.ht_cert.specs.Records.{claim_width, claimed, code_of, modulation_at, with_marks}
use Rattle.ht_counted.specs.Counted.{IsCount}
use Rattle.ht_cert.specs.Formats.{record_limits, RecordState, Modulated, Streams, Claim, Marks, Mark, certificates, is_no_streams, mark_limits}
use Rattle.ht_cert.specs.Formats.{good_claim, good_mark, good_marks, good_modulation, good_streams, marks_due, marks_given, next_turn, records_due}
use Rattle.ht_cert.specs.Files.{mark_octet}
use Rattle.ht_cert.specs.Readers.{Fails, here}

-- the number of records
pub is_count : IsCount record_limits
is_count = record { some = omega arith; few = omega arith; range = omega arith; small = omega arith; named = (λ e. cc, λ e. cc) }

pub over_is : (turn : Turn) → turn.left ≡ 0 → records_due turn ≡ Over
unfolding records_due
over_is turn none = let t : nat_eq turn.left 0 ≡ true = grind (arith, nat_tests) in when_true _ _ _ t

pub record_is : (turn : Turn) → 0 < turn.left → records_due turn ≡ Body (Modulated turn)
unfolding records_due
record_is turn some = let t : nat_eq turn.left 0 ≡ false = grind (arith, nat_tests) in when_false _ _ _ t

pub mark_is : (turn : Turn) (r : Record) (left : ℕ) → 0 < left → marks_due turn r left ≡ Body (Mark turn r left)
unfolding marks_due
mark_is turn r left some = let t : nat_eq left 0 ≡ false = grind (arith, nat_tests) in when_false _ _ _ t

pub whole_is : (turn : Turn) (r : Record) (left : ℕ) → left ≡ 0 → marks_due turn r left ≡ records_due (next_turn turn)
unfolding marks_due
whole_is turn r left none = let t : nat_eq left 0 ≡ true = grind (arith, nat_tests) in when_true _ _ _ t

pub none_given : (r : Record) (left : ℕ) → 0 < left → marks_given r left ≡ []
unfolding marks_given
none_given r left some = let t : nat_eq left 0 ≡ false = grind (arith, nat_tests) in when_false _ _ _ t

pub one_given : (r : Record) (left : ℕ) → left ≡ 0 → marks_given r left ≡ r ∷ []
unfolding marks_given
one_given r left none = let t : nat_eq left 0 ≡ true = grind (arith, nat_tests) in when_true _ _ _ t

-- each field, where it is good
code_back : (m : Modulation) → (modulation_at (code_of m) ≡ m) × (code_of m ≤ 3)
code_back Bpsk = (refl, omega arith)
code_back Qpsk = (refl, omega arith)
code_back Qam16 = (refl, omega arith)
code_back Qam64 = (refl, omega arith)

pub route_modulation : (turn : Turn) (m : Modulation) → Route certificates (Body (Modulated turn)) (Body (Streams turn m)) (code_of m ∷ []) []
unfolding good_modulation
route_modulation turn m =
    let state : Modulation → Verdict (StartState RecordState) Record = λ n. Good (Body (Streams turn n)) [] in
    route_field certificates (Body (Modulated turn)) (Body (Streams turn m)) (code_of m ∷ []) [] (
      refl,
      checked_good BadModulation (is_above 3) (good_modulation turn) (code_of m ∷ []) _ (not_above (code_of m) 3 (code_back m).1) (ap state (code_back m).0),
    )

pub streams_pass : (streams : ℕ) → 1 ≤ streams → streams ≤ 4 → is_no_streams (streams ∷ []) ≡ false
streams_pass streams some few =
    let low : nat_eq streams 0 ≡ false = grind (arith, nat_tests) in
    let high : nat_lt 4 streams ≡ false = grind (arith, nat_tests) in
    ap (λ b. b || nat_lt 4 streams) low ∙ high

pub route_streams : (turn : Turn) (m : Modulation) (streams : ℕ) → 1 ≤ streams → streams ≤ 4
    → Route certificates (Body (Streams turn m)) (Body (Claim turn m streams)) (streams ∷ []) []
unfolding good_streams
route_streams turn m streams some few =
    route_field certificates (Body (Streams turn m)) (Body (Claim turn m streams)) (streams ∷ []) []
    (refl, checked_good BadStreams is_no_streams (good_streams turn m) (streams ∷ []) _ (streams_pass streams some few) refl)

some_claim : (streams : ℕ) → 0 < claim_width streams
some_claim streams = omega arith

pub route_claim : (turn : Turn) (m : Modulation) (streams : ℕ) (x : List ℕ) → length x ≡ claim_width streams
    → Route certificates (Body (Claim turn m streams)) (Body (Marks turn (claimed turn.number m streams x))) x []
unfolding good_claim
route_claim turn m streams x wide =
    route_field certificates (Body (Claim turn m streams)) (Body (Marks turn (claimed turn.number m streams x))) x []
    (field_is (claim_width streams) (good_claim turn m streams) x (Good (Body (Marks turn (claimed turn.number m streams x))) [])
    (some_claim streams) wide refl)

marks_is : (turn : Turn) (r : Record) (octets : List ℕ) (count : ℕ) → big_number 4 octets ≡ count
    → good_marks turn r octets ≡ Good (marks_due turn r count) (marks_given r count)
unfolding good_marks
marks_is turn r octets count is =
    ap (λ (n : ℕ). let v : Verdict (StartState RecordState) Record = Good (marks_due turn r n) (marks_given r n) in v) is

pub route_marks : (turn : Turn) (r : Record) (count : ℕ) → count ≤ 33554432
    → Route certificates (Body (Marks turn r)) (marks_due turn r count) (big_bytes 4 count) (marks_given r count)
route_marks turn r count few =
    let octets = big_bytes 4 count in
    let small : count < 256 ^ 4 = omega (arith, few) in
    let back : big_number 4 octets ≡ count = big_number-reads_back 4 count [] small in
    let pass : is_outside mark_limits octets ≡ false = inside mark_limits octets count back (omega arith) few in
    route_field certificates (Body (Marks turn r)) (marks_due turn r count) octets (marks_given r count)
    (refl, checked_good BadLength (is_outside mark_limits) (good_marks turn r) octets _ pass (marks_is turn r octets count back))

-- behind a mark
abbrev pub one_mark : Record → Bool → Record
one_mark r bit = with_marks r (bit ∷ [])

mark_of : (turn : Turn) (r : Record) (left : ℕ) (bit : Bool) → good_mark turn r left (mark_octet bit ∷ [])
    ≡ Good (marks_due turn (one_mark r bit) (left - 1)) (marks_given (one_mark r bit) (left - 1))
unfolding good_mark
mark_of turn r left true = refl
mark_of turn r left false = refl

low_mark : (bit : Bool) → mark_octet bit ≤ 1
low_mark true = omega arith
low_mark false = omega arith

pub route_mark : (turn : Turn) (r : Record) (left : ℕ) (bit : Bool)
    → Route certificates (Body (Mark turn r left)) (marks_due turn (one_mark r bit) (left - 1)) (mark_octet bit ∷ []) (marks_given (one_mark r bit) (left - 1))
route_mark turn r left bit =
    route_field certificates (Body (Mark turn r left)) _ (mark_octet bit ∷ []) _ (
      refl,
      checked_good BadMark (is_above 1) (good_mark turn r left) (mark_octet bit ∷ []) _ (not_above (mark_octet bit) 1 (low_mark bit)) (mark_of turn r left bit),
    )

-- an octet that is a mark
pub mark_back : (mark : ℕ) → mark ≤ 1 → mark_octet (nat_eq mark 1) ≡ mark
mark_back zero low = refl
mark_back (suc zero) low = refl
mark_back (suc (suc n)) low = absurd (omega (arith, low))

-- each field, where it was not read
pub modulation_halts : (turn : Turn) (at : ℕ) (source after : Device ℕ) (fault : InFault)
    → FailsField 1 BadModulation (is_above 3) at source after fault → StopsWithCause (here (Body (Modulated turn)) at source) after fault
modulation_halts turn at source after fault fails =
    fails_halts certificates (Body (Modulated turn)) at 1 BadModulation (is_above 3) source after fault
    (judges_checked certificates (Body (Modulated turn)) 1 BadModulation (is_above 3) (good_modulation turn) refl (omega arith) (λ e. cc, λ e. cc)) fails

pub streams_halts : (turn : Turn) (m : Modulation) (at : ℕ) (source after : Device ℕ) (fault : InFault)
    → FailsField 1 BadStreams is_no_streams at source after fault → StopsWithCause (here (Body (Streams turn m)) at source) after fault
streams_halts turn m at source after fault fails =
    fails_halts certificates (Body (Streams turn m)) at 1 BadStreams is_no_streams source after fault
    (judges_checked certificates (Body (Streams turn m)) 1 BadStreams is_no_streams (good_streams turn m) refl (omega arith) (λ e. cc, λ e. cc)) fails

pub claim_halts : (turn : Turn) (m : Modulation) (streams at : ℕ) (source after : Device ℕ) (fault : InFault)
    → LacksField (claim_width streams) at source after fault → StopsWithCause (here (Body (Claim turn m streams)) at source) after fault
claim_halts turn m streams at source after fault lacks =
    lacks_halts certificates (Body (Claim turn m streams)) at (claim_width streams) source after fault
    (width_is (claim_width streams) (good_claim turn m streams) (some_claim streams)) lacks

pub marks_halts : (turn : Turn) (r : Record) (at : ℕ) (source after : Device ℕ) (fault : InFault)
    → FailsField 4 BadLength (is_outside mark_limits) at source after fault → StopsWithCause (here (Body (Marks turn r)) at source) after fault
marks_halts turn r at source after fault fails =
    fails_halts certificates (Body (Marks turn r)) at 4 BadLength (is_outside mark_limits) source after fault
    (judges_checked certificates (Body (Marks turn r)) 4 BadLength (is_outside mark_limits) (good_marks turn r) refl (omega arith) (λ e. cc, λ e. cc)) fails

pub mark_halts : (turn : Turn) (r : Record) (left at : ℕ) (source after : Device ℕ) (fault : InFault)
    → FailsField 1 BadMark (is_above 1) at source after fault → StopsWithCause (here (Body (Mark turn r left)) at source) after fault
mark_halts turn r left at source after fault fails =
    fails_halts certificates (Body (Mark turn r left)) at 1 BadMark (is_above 1) source after fault
    (judges_checked certificates (Body (Mark turn r left)) 1 BadMark (is_above 1) (good_mark turn r left) refl (omega arith) (λ e. cc, λ e. cc)) fails

-- what halts a reader makes it fail
pub halts_fails : (old : ReaderView Record) (after : Device ℕ) (fault : InFault) → StopsWithCause old after fault → Fails old after fault
halts_fails old after (Format fault) h = h
halts_fails old after Read h = h
halts_fails old after NoMemory h = absurd h.1

-- and so behind good fields
pub gives_fails : (old mid : ReaderView Record) (after : Device ℕ) (fault : InFault)
    → Gives old mid [] → IsLater old.source mid.source → Fails mid after fault → Fails old after fault
gives_fails old mid after (Format fault) g later f = gives_halts old mid after (Format fault) g later f
gives_fails old mid after Read g later f = gives_halts old mid after Read g later f
gives_fails old mid after NoMemory g later (taken, octets) =
    (g.taken ++ taken, takes-append old.source mid.source after g.taken taken g.octets octets)
