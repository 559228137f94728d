-- Bundles of captures as lists of fields.
use Rattle.std.specs.Prelude.{ℕ, ◌-◌, List, [], ◌∷◌, nat_eq, if◌then◌else◌}
use Rattle.byteorder.specs.Endian.{big_number}
use Rattle.ht_io.specs.declared.faults.Kind.TheVariants.{BadCount}
use Rattle.ht_fields.specs.Grammar.{Grammar, Due, field, Verdict, Good}
use Rattle.ht_heads.specs.declared.starting.Limits.{Limits}
use Rattle.ht_heads.specs.Starts.{StartState, Body}
use Rattle.ht_counted.specs.Counted.{CountedFormat, counted, entries_due}

-- which field of a capture is due: its size, by the number of captures that are left, this one among them; or its octets,
-- by their number
pub data CaptureState : Type 0 where
  Size : ℕ → CaptureState
  Octets : ℕ → ℕ → CaptureState

-- `HTMB`
abbrev pub bundle_magic : List ℕ
bundle_magic = 72 ∷ 84 ∷ 77 ∷ 66 ∷ []

-- 1 to 16 captures
abbrev pub capture_limits : Limits
capture_limits = record { width = 1; least = 1; most = 16; kind = BadCount }

-- where captures are left, the next one begins with its size; else the file ends
abbrev pub captures_due : ℕ → StartState CaptureState
captures_due = entries_due Size

-- behind the size of a capture its octets are due; a capture of no octets is whole at once
unfoldable pub octets_due : ℕ → ℕ → StartState CaptureState
octets_due left size = if nat_eq size 0 then captures_due (left - 1) else Body (Octets left size)

-- a capture of no octets is given with its size
unfoldable pub size_given : ℕ → List (List ℕ)
size_given size = if nat_eq size 0 then [] ∷ [] else []

-- what the octets of a field mean
unfoldable pub good_size : ℕ → List ℕ → Verdict (StartState CaptureState) (List ℕ)
good_size left octets = Good (octets_due left (big_number 4 octets)) (size_given (big_number 4 octets))

-- behind its octets the capture is whole, and the next one is due
unfoldable pub good_octets : ℕ → List ℕ → Verdict (StartState CaptureState) (List ℕ)
good_octets left octets = Good (captures_due (left - 1)) (octets ∷ [])

-- The octets of a capture are one field, since here none of them can be at fault.
abbrev pub capture_due : CaptureState → Due (StartState CaptureState) (List ℕ)
capture_due (Size left) = field 4 (good_size left)
capture_due (Octets left size) = field size (good_octets left)

abbrev pub bundled : CountedFormat CaptureState (List ℕ)
bundled = record { magic = bundle_magic; limits = capture_limits; first = Size; due = capture_due }

-- the format
abbrev pub bundles : Grammar (StartState CaptureState) (List ℕ)
bundles = counted bundled
