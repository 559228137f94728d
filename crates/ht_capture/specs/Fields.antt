-- Captures as lists of fields, in both versions.
use Rattle.std.specs.Prelude.{ℕ, ◌+◌, ◌-◌, ◌*◌, List, [], ◌∷◌, ◌++◌, length, nat_eq, nat_lt, Bool, ◌&&◌, ◌||◌, if◌then◌else◌}
use Rattle.byteorder.specs.Endian.{big_number}
use Rattle.ht_io.specs.declared.faults.Kind.TheVariants.{BadMagic, BadVersion, BadBandwidth, BadMcs, BadLength, BadErased}
use Rattle.ht_fields.specs.Grammar.{Grammar, Due, End, field, Verdict, Good, Bad}
use Rattle.ht_fields.specs.Tests.{octet_of}
use Rattle.ht_rate.specs.declared.rates.Rate.{Rate}
use Rattle.ht_rate.specs.Rates.{rate_at, streams_of, carriers_of, symbols_of}
use Rattle.ht_capture.specs.declared.items.FrameHead.{FrameHead}
use Rattle.ht_capture.specs.declared.items.Item.{Item}
use Rattle.ht_capture.specs.declared.items.Item.TheVariants.{Frame}
use Rattle.ht_capture.specs.declared.places.Present.{Present}
use Rattle.ht_capture.specs.declared.places.Turn.{Turn}
use Rattle.ht_capture.specs.declared.places.SymbolTurn.{SymbolTurn}
use Rattle.ht_capture.specs.Systems.{triangle_of, triangle_octets}
use Rattle.ht_capture.specs.Frames.{carrier_octets, jobs_at, erase}

-- which field is due: an octet of the magic, with those behind it; the version; the number of frames; the fields of a
-- frame's head; a subcarrier's flag or triangle, behind those of the lower subcarriers; the samples of a symbol; or nothing
pub data CaptureState : Type 0 where
  Magic : ℕ → List ℕ → CaptureState
  Version : CaptureState
  Count : ℕ → CaptureState
  Bandwidth : Turn → CaptureState
  Mcs : Turn → ℕ → CaptureState
  Length : Turn → Rate → CaptureState
  Flag : Turn → FrameHead → ℕ → List Present → CaptureState
  Triangle : Turn → FrameHead → ℕ → List Present → CaptureState
  Symbol : SymbolTurn → List Present → CaptureState
  Over : CaptureState

-- the magic `HTCP`, octet by octet, and then the version
abbrev pub capture_magic_due : List ℕ → CaptureState
capture_magic_due [] = Version
capture_magic_due (x ∷ xs) = Magic x xs

-- the octets of `HTCP`
abbrev pub capture_magic : List ℕ
capture_magic = 72 ∷ 84 ∷ 67 ∷ 80 ∷ []

-- an octet of the magic is this one
unfoldable pub judge_magic : ℕ → List ℕ → List ℕ → Verdict CaptureState Item
judge_magic x xs octets = if nat_eq (octet_of octets) x then Good (capture_magic_due xs) [] else Bad BadMagic

-- there are the versions 1 and 2
abbrev pub known_version : ℕ → Bool
known_version version = nat_eq version 1 || nat_eq version 2

-- the octet is a version that there is
unfoldable pub judge_version : List ℕ → Verdict CaptureState Item
judge_version octets = if known_version (octet_of octets) then Good (Count (octet_of octets)) [] else Bad BadVersion

-- where frames are left, the next one begins with its bandwidth; else the file ends
unfoldable pub turn_due : Turn → CaptureState
turn_due turn = if nat_eq turn.left 0 then Over else Bandwidth turn

-- any number of frames is good
unfoldable pub judge_count : ℕ → List ℕ → Verdict CaptureState Item
judge_count version octets = Good (turn_due (record { version = version; left = big_number 2 octets; frame = 0; number = 0 })) []

-- a bandwidth is 0 (20 MHz) or 1 (40 MHz)
unfoldable pub judge_bandwidth : Turn → List ℕ → Verdict CaptureState Item
judge_bandwidth turn octets = if nat_lt 1 (octet_of octets) then Bad BadBandwidth else Good (Mcs turn (octet_of octets)) []

-- an MCS index is at most 31
unfoldable pub judge_mcs : Turn → ℕ → List ℕ → Verdict CaptureState Item
judge_mcs turn bandwidth octets = if nat_lt 31 (octet_of octets) then Bad BadMcs else Good (Length turn (rate_at bandwidth (octet_of octets))) []

-- in version 2 a subcarrier begins with its flag, and in version 1 with its triangle
abbrev pub carrier_due : Turn → FrameHead → ℕ → List Present → CaptureState
carrier_due turn head carrier present = if nat_eq turn.version 2 then Flag turn head carrier present else Triangle turn head carrier present

-- the first symbol of a frame, of which this number of subcarriers is present
abbrev pub first_symbol : Turn → FrameHead → ℕ → SymbolTurn
first_symbol turn head count = record { turn = turn; head = head; symbol = 0; symbols = symbols_of head.rate head.length; count = count }

-- what is due from a subcarrier on, and behind the last one
unfoldable pub carriers_due : Turn → FrameHead → ℕ → List Present → CaptureState
carriers_due turn head carrier present =
    if nat_lt carrier (carriers_of head.rate) then carrier_due turn head carrier present else Symbol (first_symbol turn head (length present)) present

-- behind the last subcarrier the head is whole
unfoldable pub head_given : FrameHead → ℕ → List Item
head_given head carrier = if nat_lt carrier (carriers_of head.rate) then [] else Frame head ∷ []

-- the head of a frame of which no subcarrier was read yet
abbrev pub new_head : Turn → Rate → ℕ → FrameHead
new_head turn rate len = record { frame = turn.frame; rate = rate; length = len; erased = 0 }

-- a length is at least 1
unfoldable pub judge_length : Turn → Rate → List ℕ → Verdict CaptureState Item
judge_length turn rate octets =
    if nat_eq (big_number 2 octets) 0 then Bad BadLength else Good (carriers_due turn (new_head turn rate (big_number 2 octets)) 0 []) []

-- a flag that isn't 0 is bad: it is above 1, or it is the last one and none of the lower subcarriers is present; `count` of them are
unfoldable pub bad_flag : FrameHead → ℕ → ℕ → ℕ → Bool
bad_flag head carrier count flag = nat_lt 1 flag || (nat_eq carrier (carriers_of head.rate - 1) && nat_eq count 0)

-- behind the flag 0 the subcarrier's triangle is due; behind a good flag 1 the subcarrier is erased
unfoldable pub judge_flag : Turn → FrameHead → ℕ → List Present → List ℕ → Verdict CaptureState Item
judge_flag turn head carrier present octets =
    if nat_eq (octet_of octets) 0 then Good (Triangle turn head carrier present) []
    else if bad_flag head carrier (length present) (octet_of octets) then Bad BadErased
    else Good (carriers_due turn (erase head carrier) (carrier + 1) present) (head_given (erase head carrier) (carrier + 1))

-- a subcarrier that is present, with the triangle that these octets are
abbrev pub present_at : FrameHead → ℕ → List ℕ → Present
present_at head carrier octets = record { carrier = carrier; triangle = triangle_of (streams_of head.rate) octets }

-- any triangle is good, and its subcarrier is present
unfoldable pub judge_triangle : Turn → FrameHead → ℕ → List Present → List ℕ → Verdict CaptureState Item
judge_triangle turn head carrier present octets =
    Good (carriers_due turn head (carrier + 1) (present ++ present_at head carrier octets ∷ [])) (head_given head (carrier + 1))

-- behind a symbol: the next one, and the jobs of this one more
unfoldable pub next_symbol : SymbolTurn → SymbolTurn
next_symbol due = record {
  turn = record { version = due.turn.version; left = due.turn.left; frame = due.turn.frame; number = due.turn.number + due.count };
  head = due.head;
  symbol = due.symbol + 1;
  symbols = due.symbols;
  count = due.count;
}

-- behind a frame
unfoldable pub next_turn : Turn → Turn
next_turn turn = record { version = turn.version; left = turn.left - 1; frame = turn.frame + 1; number = turn.number }

-- where symbols are left, the samples of the next one; else the next frame
unfoldable pub symbol_due : SymbolTurn → List Present → CaptureState
symbol_due due present =
    if nat_lt due.symbol due.symbols then Symbol due present else turn_due (next_turn due.turn)

-- any samples are good, and give the jobs of their symbol
unfoldable pub judge_symbol : SymbolTurn → List Present → List ℕ → Verdict CaptureState Item
judge_symbol due present octets =
    Good (symbol_due (next_symbol due) present) (jobs_at due.head due.symbol due.turn.number present octets 0)

-- The samples of a symbol are one field, since none of them can be at fault.
abbrev pub capture_due : CaptureState → Due CaptureState Item
capture_due (Magic x xs) = field 1 (judge_magic x xs)
capture_due Version = field 1 judge_version
capture_due (Count version) = field 2 (judge_count version)
capture_due (Bandwidth turn) = field 1 (judge_bandwidth turn)
capture_due (Mcs turn bandwidth) = field 1 (judge_mcs turn bandwidth)
capture_due (Length turn rate) = field 2 (judge_length turn rate)
capture_due (Flag turn head carrier present) = field 1 (judge_flag turn head carrier present)
capture_due (Triangle turn head carrier present) = field (triangle_octets (streams_of head.rate)) (judge_triangle turn head carrier present)
capture_due (Symbol due present) = field (due.count * carrier_octets due.head.rate) (judge_symbol due present)
capture_due Over = End

-- the format
abbrev pub captures : Grammar CaptureState Item
captures = record { start = capture_magic_due capture_magic; due = capture_due }
