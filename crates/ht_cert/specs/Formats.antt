-- Files of certificates as lists of fields.
use Rattle.std.specs.Prelude.{ℕ, ◌+◌, ◌-◌, List, [], ◌∷◌, nat_eq, nat_lt, Bool, ◌||◌, if◌then◌else◌}
use Rattle.byteorder.specs.Endian.{big_number}
use Rattle.ht_io.specs.declared.faults.Kind.TheVariants.{BadLength, BadModulation, BadStreams, BadMark}
use Rattle.ht_fields.specs.Grammar.{Grammar, Due, field, Verdict, Good}
use Rattle.ht_fields.specs.Tests.{checked, is_above, octet_of}
use Rattle.ht_heads.specs.declared.starting.Limits.{Limits}
use Rattle.ht_heads.specs.Starts.{StartState, Body, Over, StartedFormat, is_outside, started}
use Rattle.ht_rate.specs.declared.kinds.Modulation.{Modulation}
use Rattle.ht_cert.specs.declared.record.Record.{Record}
use Rattle.ht_cert.specs.declared.turn.Turn.{Turn}
use Rattle.ht_cert.specs.Records.{claim_width, claimed, modulation_at, with_marks}

-- which field of a record is due: its modulation; the number of its streams; the triangle, the samples, the claimed points
-- and the claimed distance; the number of its marks; or one of its marks, by how many are left, this one among them
pub data RecordState : Type 0 where
  Modulated : Turn → RecordState
  Streams : Turn → Modulation → RecordState
  Claim : Turn → Modulation → ℕ → RecordState
  Marks : Turn → Record → RecordState
  Mark : Turn → Record → ℕ → RecordState

-- `HTCT`
abbrev pub certificates_magic : List ℕ
certificates_magic = 72 ∷ 84 ∷ 67 ∷ 84 ∷ []

-- at most 2^37 records, and at most 2^25 marks in each
abbrev pub record_limits : Limits
record_limits = record { width = 8; least = 0; most = 137438953472; kind = BadLength }

abbrev pub mark_limits : Limits
mark_limits = record { width = 4; least = 0; most = 33554432; kind = BadLength }

-- where records are left, the next one begins with its modulation; else the file ends
unfoldable pub records_due : Turn → StartState RecordState
records_due turn = if nat_eq turn.left 0 then Over else Body (Modulated turn)

-- behind a record
unfoldable pub next_turn : Turn → Turn
next_turn turn = record { left = turn.left - 1; number = turn.number + 1 }

-- where this number of marks is left, the next one; else the record is whole, and the next record is due
unfoldable pub marks_due : Turn → Record → ℕ → StartState RecordState
marks_due turn r left = if nat_eq left 0 then records_due (next_turn turn) else Body (Mark turn r left)

-- a record is given where no mark of it is left
unfoldable pub marks_given : Record → ℕ → List Record
marks_given r left = if nat_eq left 0 then r ∷ [] else []

-- one to four streams
abbrev pub is_no_streams : List ℕ → Bool
is_no_streams octets = nat_eq (octet_of octets) 0 || nat_lt 4 (octet_of octets)

-- what the octets of a field mean that are not at fault
unfoldable pub good_modulation : Turn → List ℕ → Verdict (StartState RecordState) Record
good_modulation turn octets = Good (Body (Streams turn (modulation_at (octet_of octets)))) []

-- behind the number of streams triangle, samples, points and distance are due
unfoldable pub good_streams : Turn → Modulation → List ℕ → Verdict (StartState RecordState) Record
good_streams turn modulation octets = Good (Body (Claim turn modulation (octet_of octets))) []

-- any triangle, samples, points and distance are good
unfoldable pub good_claim : Turn → Modulation → ℕ → List ℕ → Verdict (StartState RecordState) Record
good_claim turn modulation streams octets = Good (Body (Marks turn (claimed turn.number modulation streams octets))) []

-- behind the number of marks the marks are due
unfoldable pub good_marks : Turn → Record → List ℕ → Verdict (StartState RecordState) Record
good_marks turn r octets = Good (marks_due turn r (big_number 4 octets)) (marks_given r (big_number 4 octets))

-- 1 is open, 0 is cut
abbrev pub marked : Record → List ℕ → Record
marked r octets = with_marks r (nat_eq (octet_of octets) 1 ∷ [])

-- a mark is added to those of the record
unfoldable pub good_mark : Turn → Record → ℕ → List ℕ → Verdict (StartState RecordState) Record
good_mark turn r left octets = Good (marks_due turn (marked r octets) (left - 1)) (marks_given (marked r octets) (left - 1))

-- Triangle, samples, points and distance are one field, since none of these numbers can be at fault.
abbrev pub record_due : RecordState → Due (StartState RecordState) Record
record_due (Modulated turn) = field 1 (checked BadModulation (is_above 3) (good_modulation turn))
record_due (Streams turn modulation) = field 1 (checked BadStreams is_no_streams (good_streams turn modulation))
record_due (Claim turn modulation streams) = field (claim_width streams) (good_claim turn modulation streams)
record_due (Marks turn r) = field 4 (checked BadLength (is_outside mark_limits) (good_marks turn r))
record_due (Mark turn r left) = field 1 (checked BadMark (is_above 1) (good_mark turn r left))

-- what is due behind the number of records
abbrev pub first_due : ℕ → StartState RecordState
first_due count = records_due (record { left = count; number = 0 })

abbrev pub recorded : StartedFormat RecordState Record
recorded = record { magic = certificates_magic; limits = record_limits; first = first_due; due = record_due }

-- the format
abbrev pub certificates : Grammar (StartState RecordState) Record
certificates = started recorded
