-- How a reading ends, in any format: why it stopped, and what a file that is read whole is.
use Rattle.std.specs.Prelude.{◌≡◌, ◌⊎◌, ℕ, ◌+◌, List, ◌++◌, length, Some, Result, MatchResult}
use Rattle.ht_io.specs.Devices.{Device, Takes, TakesAll, Rose}
use Rattle.ht_io.specs.declared.faults.FormatFault.{FormatFault}
use Rattle.ht_io.specs.declared.faults.InFault.{InFault}
use Rattle.ht_io.specs.declared.faults.InFault.TheVariants.{Format, Read, NoMemory}
use Rattle.ht_fields.specs.Readers.{ReaderView, Gives, IsEarly, Stops}

-- a source that fails has counted it; memory never lacks
abbrev pub Caused : Device ℕ → Device ℕ → InFault → Type 0
Caused before after (Format fault) = Unit {0}
Caused before after Read = Rose before after
Caused before after NoMemory = ⊥

-- a reader stopped with this fault, on the way to its next item, and its source tells why
abbrev pub StopsWithCause : {I : Type 0} → ReaderView I → Device ℕ → InFault → Type 0
StopsWithCause old after fault = Stops old after fault × Caused old.source after fault

-- What a call comes to that reads some fields, for the reader as it stood in front of them. Where the answer is Ok, the octets
-- taken give the items that go with it, and the reader stands where the answer says. Where it is a fault, the reading stopped
-- at one of these fields, before any item.
abbrev pub ReadsTo : {A I : Type 0} → Result A InFault → ReaderView I → (A → ReaderView I) → (A → List I) → Device ℕ → Type 0
ReadsTo result old new items after = MatchResult result (λ answer. Gives old (new answer) (items answer)) (StopsWithCause old after)

-- the octets that were taken are good fields
abbrev pub GivesFields : {I : Type 0} → ReaderView I → ReaderView I → Type 0
GivesFields old new = (items : List _) × Gives old new items

-- the octets that were taken have this first fault, whatever follows them, or they were all that was left
abbrev pub HasFirstFault : {I : Type 0} → ReaderView I → Device ℕ → FormatFault → Type 0
HasFirstFault old after fault =
    (taken : List ℕ)
    × ((Takes old.source after taken × ((rest : List ℕ) → (old.means (taken ++ rest)).fault ≡ Some fault))
    ⊎ (TakesAll old.source after taken × ((old.means taken).fault ≡ Some fault)))

-- the octets that were taken have no fault but their early end
abbrev pub IsCleanSoFar : {I : Type 0} → ReaderView I → Device ℕ → Type 0
IsCleanSoFar old after =
    (taken : List ℕ) × Takes old.source after taken × IsEarly (old.at + length taken) (old.means taken).fault

-- why the reading of a whole file ended early: at the first fault, or where the source failed, or for lack of memory
abbrev pub EndsEarly : {I : Type 0} → ReaderView I → Device ℕ → InFault → Type 0
EndsEarly old after (Format fault) = HasFirstFault old after fault
EndsEarly old after Read = Rose old.source after × IsCleanSoFar old after
EndsEarly old after NoMemory = Unit {0}

-- What a call comes to that reads fields of a file that is read whole, for the reader as it stood in front of them. Where the
-- answer is Ok, they are good, and the reader stands where the answer says. Where it is a fault, the reading of the file ended
-- at one of them, or memory ran out.
abbrev pub ReadsFieldsTo : {A I : Type 0} → Result A InFault → ReaderView I → (A → ReaderView I) → Device ℕ → Type 0
ReadsFieldsTo result old new after = MatchResult result (λ answer. GivesFields old (new answer)) (EndsEarly old after)

-- the octets that were left are the file of such values, and were all taken
abbrev pub ReadsWhole : {V : Type 0} → (List V → Type 0) → (List V → List ℕ) → Device ℕ → Device ℕ → List V → Type 0
ReadsWhole are file before after values = are values × TakesAll before after (file values)
