-- What it comes to that a file is read and pieces of it are put: what was taken from the source, and what was put.
use Rattle.std.specs.Prelude.{◌≡◌, ℕ, ◌<◌, List, length, take, None, Some, IfSome}
use Rattle.ht_io.specs.Devices.{Device, Takes, TakesAll, Grows, GrowsByPart}
use Rattle.ht_io.specs.declared.faults.FormatFault.{FormatFault}
use Rattle.ht_fields.specs.Grammar.{Grammar}
use Rattle.ht_fields.specs.Meanings.{meaning}
use Rattle.ht_fields.specs.Readers.{IsEarly}

-- the octets have no fault, or only that they end early: they are a file of the format, or the front of one
abbrev pub IsFrontOf : {S I : Type 0} → Grammar S I → List ℕ → Type 0
IsFrontOf f octets = IsEarly (length octets) (meaning f f.start 0 octets).fault

-- these pieces are put of a list of octets; the source, and the device that they are put into, before and after
module _ {S I P : Type 0} (f : Grammar S I) (pieces : List ℕ → List P) (source source' : Device ℕ) (device device' : Device P) where
  -- all octets that were left are a file, of which this is said, and its pieces were put
  pub record TellsWhole (Says : List ℕ → Type 0) : Type 0 where
    pub taken : List ℕ
    pub octets : TakesAll source source' taken
    pub whole : (meaning f f.start 0 taken).fault ≡ None
    pub says : Says taken
    pub put : Grows device device' (pieces taken)

  -- the octets taken end with the field at fault; the pieces of what is whole before it were put
  pub record TellsRefused (fault : FormatFault) : Type 0 where
    pub taken : List ℕ
    pub octets : Takes source source' taken
    pub refused : (meaning f f.start 0 taken).fault ≡ Some fault
    pub ends : (n : ℕ) → n < length taken → IsFrontOf f (take n taken)
    pub comes : IfSome source.known (λ all. meaning f f.start 0 all ≡ meaning f f.start 0 taken)
    pub put : Grows device device' (pieces taken)

  -- the octets taken before the source failed are a file, or the front of one; the pieces of what is whole in them were put
  pub record TellsBroken : Type 0 where
    pub taken : List ℕ
    pub octets : Takes source source' taken
    pub front : IsFrontOf f taken
    pub put : Grows device device' (pieces taken)

  -- a part of the pieces of what is whole in the octets taken was put
  pub record TellsPieces : Type 0 where
    pub taken : List ℕ
    pub octets : Takes source source' taken
    pub put : GrowsByPart device device' (pieces taken)
    pub of_all : IfSome source.known (λ all. GrowsByPart device device' (pieces all))
