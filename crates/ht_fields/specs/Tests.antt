-- Tests of the octets of a field.
use Rattle.std.specs.Prelude.{ℕ, ◌<◌, ◌≤◌, All, List, slice_index, get_or, nat_eq, nat_lt, Bool, true, false, if◌then◌else◌}
use Rattle.byteorder.specs.Endian.{big_number}
use Rattle.ht_io.specs.declared.faults.Kind.{Kind}
use Rattle.ht_fields.specs.Grammar.{Verdict, Bad}

-- the one octet of a field
abbrev pub octet_of : List ℕ → ℕ
octet_of octets = slice_index octets 0

-- the octet is another one than is wanted
abbrev pub differs : ℕ → List ℕ → Bool
differs wanted octets = if nat_eq (octet_of octets) wanted then false else true

-- the octet is above the last value that it may have
abbrev pub is_above : ℕ → List ℕ → Bool
is_above last octets = nat_lt last (octet_of octets)

-- no octet is above the last value that they may have
abbrev pub AreLow : ℕ → List ℕ → Type 0
AreLow last octets = All (λ x. x ≤ last) octets

-- the number of two octets is 0
abbrev pub is_zero : List ℕ → Bool
is_zero octets = nat_eq (big_number 2 octets) 0

-- the judge of a field that this test refuses, and that means this where it passes
unfoldable pub checked : {S I : Type 0} → Kind → (List ℕ → Bool) → (List ℕ → Verdict S I) → List ℕ → Verdict S I
checked kind refused good octets = if refused octets then Bad kind else good octets

-- the numbers are octets
abbrev pub AreBytes : List ℕ → Type 0
AreBytes octets = (i : ℕ) → get_or octets i 0 < 256
