-- Why a field was not read, whichever format it is of.
use Rattle.std.specs.Prelude.{◌≡◌, ◌⊎◌, ℕ, ◌+◌, ◌<◌, List, length, Bool, true}
use Rattle.ht_io.specs.Devices.{Device, Takes, Rose, IsLater}
use Rattle.ht_io.specs.declared.faults.Kind.{Kind}
use Rattle.ht_io.specs.declared.faults.Kind.TheVariants.{Truncated, Trailing}
use Rattle.ht_io.specs.declared.faults.InFault.{InFault}
use Rattle.ht_io.specs.declared.faults.InFault.TheVariants.{Format, Read, NoMemory}
use Rattle.ht_fields.specs.Reading.{ReadsField}
use Rattle.ht_fields.specs.Tests.{AreLow, is_above}
use Rattle.ht_fields.specs.declared.read.Field.TheVariants.{Ended, Broken}

-- a field of this width, which begins at the offset, was not read whole: the input ended, or the source failed
abbrev pub LacksField : ℕ → ℕ → Device ℕ → Device ℕ → InFault → Type 0
LacksField width at before after (Format fault) =
    (into : List ℕ) × (count : ℕ) × (length into ≡ width) × ReadsField before after (Ended count) into
    × (fault ≡ record { kind = Truncated; offset = at + count })
LacksField width at before after Read =
    ((into : List ℕ) × (length into ≡ width) × ReadsField before after Broken into) × Rose before after
LacksField width at before after NoMemory = ⊥

-- a field of this width was read whole, and the test refuses it
abbrev pub RefusesField : ℕ → Kind → (List ℕ → Bool) → ℕ → Device ℕ → Device ℕ → InFault → Type 0
RefusesField width kind refused at before after fault =
    (octets : List ℕ) × (length octets ≡ width) × (refused octets ≡ true) × Takes before after octets
    × (fault ≡ Format (record { kind = kind; offset = at }))

-- why a field that the test may refuse was not read
abbrev pub FailsField : ℕ → Kind → (List ℕ → Bool) → ℕ → Device ℕ → Device ℕ → InFault → Type 0
FailsField width kind refused at before after fault =
    LacksField width at before after fault ⊎ RefusesField width kind refused at before after fault

-- these octets were taken from the offset on, and then such a field was not read
abbrev pub FailsBehind : List ℕ → ℕ → Kind → (List ℕ → Bool) → ℕ → Device ℕ → Device ℕ → InFault → Type 0
FailsBehind front width kind refused at before after fault =
    (between : Device ℕ) × Takes before between front × IsLater before between
    × FailsField width kind refused (at + length front) between after fault

-- of this number of fields of one octet, of which none may be above the last value, some that are not were taken from the
-- offset on, and the next one was not read or is above
abbrev pub FailsAmong : ℕ → ℕ → Kind → ℕ → Device ℕ → Device ℕ → InFault → Type 0
FailsAmong count last kind at before after fault =
    (front : List ℕ) × (length front < count) × AreLow last front × FailsBehind front 1 kind (is_above last) at before after fault

-- the input doesn't end at the offset: an octet follows, or the source failed
abbrev pub GoesFurther : ℕ → Device ℕ → Device ℕ → InFault → Type 0
GoesFurther at before after (Format fault) =
    (octets : List ℕ) × (length octets ≡ 1) × Takes before after octets × (fault ≡ record { kind = Trailing; offset = at })
GoesFurther at before after Read =
    ((octets : List ℕ) × (length octets ≡ 1) × ReadsField before after Broken octets) × Rose before after
GoesFurther at before after NoMemory = ⊥
