-- Files that begin with a magic, the version 1 and a count: what is due in front of the counted things, in any such format.
use Rattle.std.specs.Prelude.{◌⊎◌, ℕ, List, [], ◌∷◌, ◌++◌, nat_lt, Bool, ◌||◌}
use Rattle.byteorder.specs.Endian.{big_bytes, big_number}
use Rattle.ht_io.specs.Devices.{Device}
use Rattle.ht_io.specs.declared.faults.InFault.{InFault}
use Rattle.ht_io.specs.declared.faults.Kind.TheVariants.{BadMagic, BadVersion}
use Rattle.ht_fields.specs.Grammar.{Grammar, Due, End, field, Verdict, Good}
use Rattle.ht_fields.specs.Lacking.{FailsBehind}
use Rattle.ht_fields.specs.Tests.{checked, differs}
use Rattle.ht_heads.specs.declared.starting.Limits.{Limits}
use Rattle.ht_heads.specs.Heads.{MagicFails}

-- the count is less than it may be, or more
unfoldable pub is_outside : Limits → List ℕ → Bool
is_outside limits octets = nat_lt (big_number limits.width octets) limits.least || nat_lt limits.most (big_number limits.width octets)

-- which field is due: an octet of the magic, with those behind it; the version; the count; one of what is counted; or nothing
pub data StartState (B : Type 0) : Type 0 where
  Magic : ℕ → List ℕ → StartState B
  Version : StartState B
  Count : StartState B
  Body : B → StartState B
  Over : StartState B

-- a format: its magic, how it counts, what is due behind a count, and in each state there
pub record StartedFormat (B I : Type 0) : Type 0 where
  pub magic : List ℕ
  pub limits : Limits
  pub first : ℕ → StartState B
  pub due : B → Due (StartState B) I

-- the magic, octet by octet, and then the version
abbrev pub magic_due : {B : Type 0} → List ℕ → StartState B
magic_due [] = Version
magic_due (x ∷ xs) = Magic x xs

-- what the octets of a field mean that are not at fault
unfoldable pub good_magic : {B I : Type 0} → List ℕ → List ℕ → Verdict (StartState B) I
good_magic more octets = Good (magic_due more) []

unfoldable pub good_version : {B I : Type 0} → List ℕ → Verdict (StartState B) I
good_version octets = Good Count []

unfoldable pub good_count : {B I : Type 0} → StartedFormat B I → List ℕ → Verdict (StartState B) I
good_count h octets = Good (h.first (big_number h.limits.width octets)) []

abbrev pub start_due : {B I : Type 0} → StartedFormat B I → StartState B → Due (StartState B) I
start_due h (Magic x xs) = field 1 (checked BadMagic (differs x) (good_magic xs))
start_due h Version = field 1 (checked BadVersion (differs 1) good_version)
start_due h Count = field h.limits.width (checked h.limits.kind (is_outside h.limits) (good_count h))
start_due h (Body body) = h.due body
start_due h Over = End

-- the format as a grammar
abbrev pub started : {B I : Type 0} → StartedFormat B I → Grammar (StartState B) I
started h = record { start = magic_due h.magic; due = start_due h }

-- the magic, the version and the count
unfoldable pub started_octets : List ℕ → ℕ → ℕ → List ℕ
started_octets magic width count = magic ++ (1 ∷ big_bytes width count)

-- why these octets were not read: the magic, the version or the count
abbrev pub StartedFails : List ℕ → Limits → Device ℕ → Device ℕ → InFault → Type 0
StartedFails magic limits before after fault =
    MagicFails magic 0 before after fault
    ⊎ (FailsBehind magic 1 BadVersion (differs 1) 0 before after fault
    ⊎ FailsBehind (magic ++ (1 ∷ [])) limits.width limits.kind (is_outside limits) 0 before after fault)
