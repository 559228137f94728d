-- What a call of a reader does with the octets that it takes from its source.
use Rattle.std.specs.Prelude.{◌≡◌, ◌⊎◌, ℕ, ◌+◌, ◌<◌, ◌≤◌, List, [], ◌++◌, length, take, Option, None, Some}
use Rattle.ht_io.specs.Devices.{Device, Takes, TakesAll}
use Rattle.ht_io.specs.declared.faults.FormatFault.{FormatFault}
use Rattle.ht_io.specs.declared.faults.InFault.{InFault}
use Rattle.ht_io.specs.declared.faults.InFault.TheVariants.{Format, Read, NoMemory}
use Rattle.ht_io.specs.declared.faults.Kind.TheVariants.{Truncated, Trailing}
use Rattle.ht_fields.specs.Grammar.{Grammar}
use Rattle.ht_fields.specs.Meanings.{Meaning, before, ended, refused, meaning}

-- a reader over its source: what it still means, if exactly these octets are left; how many were read; and the source
pub record ReaderView (I : Type 0) : Type 0 where
  pub means : List ℕ → Meaning I
  pub at : ℕ
  pub source : Device ℕ

-- a reader that is in a state of its format
abbrev pub reader_in : {S I : Type 0} → Grammar S I → S → ℕ → Device ℕ → ReaderView I
reader_in f state at source = record { means = meaning f state at; at = at; source = source }

-- the octets taken give these items: whatever follows them, the reader meant these items, and then what it means now
pub record Gives {I : Type 0} (old new : ReaderView I) (items : List I) : Type 0 where
  pub taken : List ℕ
  pub octets : Takes old.source new.source taken
  pub place : new.at ≡ old.at + length taken
  pub means : (rest : List ℕ) → old.means (taken ++ rest) ≡ before items (new.means rest)

-- no fault, or Truncated at the end of this number of octets
abbrev pub IsEarly : ℕ → Option FormatFault → Type 0
IsEarly total None = Unit {0}
IsEarly total (Some fault) = fault ≡ record { kind = Truncated; offset = total }

-- the octets end with the field at fault: it begins among them, at the fault's offset, and while it isn't whole, the
-- reader meant no fault but their early end; a trailing octet is the last of them
pub record EndsAt {I : Type 0} (old : ReaderView I) (taken : List ℕ) (fault : FormatFault) : Type 0 where
  pub kind : fault.kind ≡ Truncated → ⊥
  pub behind : old.at ≤ fault.offset
  pub within : fault.offset < old.at + length taken
  pub early : (n : ℕ) → fault.offset ≤ old.at + n → n < length taken → IsEarly (old.at + n) (old.means (take n taken)).fault
  pub trailing : fault.kind ≡ Trailing → old.at + length taken ≡ fault.offset + 1

-- the octets taken end with the field at fault: whatever follows them, the reader meant this fault and no item
pub record Refuses {I : Type 0} (old : ReaderView I) (after : Device ℕ) (fault : FormatFault) : Type 0 where
  pub taken : List ℕ
  pub octets : Takes old.source after taken
  pub means : (rest : List ℕ) → old.means (taken ++ rest) ≡ refused fault.kind fault.offset
  pub ends : EndsAt old taken fault

-- all octets that were left were taken, and were too few: the reader meant Truncated behind them, and no item
pub record RunsOut {I : Type 0} (old : ReaderView I) (after : Device ℕ) (fault : FormatFault) : Type 0 where
  pub taken : List ℕ
  pub octets : TakesAll old.source after taken
  pub kind : fault.kind ≡ Truncated
  pub place : fault.offset ≡ old.at + length taken
  pub means : old.means taken ≡ refused fault.kind fault.offset

-- the octets taken before the source failed are clean: of them alone the reader meant no item, and no fault but their early end
pub record Breaks {I : Type 0} (old : ReaderView I) (after : Device ℕ) : Type 0 where
  pub taken : List ℕ
  pub octets : Takes old.source after taken
  pub items : (old.means taken).items ≡ []
  pub early : IsEarly (old.at + length taken) (old.means taken).fault

-- the reader stopped with this answer
abbrev pub Stops : {I : Type 0} → ReaderView I → Device ℕ → InFault → Type 0
Stops old after (Format fault) = Refuses old after fault ⊎ RunsOut old after fault
Stops old after Read = Breaks old after
Stops old after NoMemory = Unit {0}

-- no octet was left, and the reader meant the end of the file
pub record Finishes {I : Type 0} (old : ReaderView I) (after : Device ℕ) : Type 0 where
  pub octets : TakesAll old.source after []
  pub means : old.means [] ≡ ended

-- the octets taken were all that was left: the reader meant no item more, and no fault
pub record Completes {I : Type 0} (old : ReaderView I) (after : Device ℕ) : Type 0 where
  pub taken : List ℕ
  pub octets : TakesAll old.source after taken
  pub means : old.means taken ≡ ended
