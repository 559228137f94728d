-- Runs that read a format.
use Rattle.std.specs.Prelude.{◌≡◌, ◌⊎◌, ℕ, List, ◌++◌, Option, None, Some}
use Rattle.ht_io.specs.declared.faults.FormatFault.{FormatFault}
use Rattle.ht_fields.specs.Grammar.{Grammar}
use Rattle.ht_fields.specs.Cases.{IsFile, IsClean}
use Rattle.ht_fields.specs.Meanings.{meaning}
use Rattle.ht_runs.specs.Filters.{Conversion, Filter, MemoryUse}
use Rattle.ht_runs.specs.Streamed.{line_of_fault}

-- the octets are a file of the format
abbrev pub IsWhole : {S I : Type 0} → Grammar S I → List ℕ → Type 0
IsWhole f octets = IsFile f octets (meaning f f.start 0 octets).items

-- the octets are a file, or good fields of one and then fewer octets than the next field has
abbrev pub IsFaultless : {S I : Type 0} → Grammar S I → List ℕ → Type 0
IsFaultless f octets = IsWhole f octets ⊎ IsClean f octets (meaning f f.start 0 octets).items

-- the first fault of the octets
abbrev pub fault_in : {S I : Type 0} → Grammar S I → List ℕ → Option FormatFault
fault_in f octets = (meaning f f.start 0 octets).fault

-- It reads a file of the format and writes lines while it reads: of octets whose end isn't known these lines, which are
-- a front of their text.
abbrev pub filter : {S I : Type 0} → Grammar S I → (List ℕ → List ℕ) → (List ℕ → List ℕ) → Filter
filter f text lines = record { IsInput = IsWhole f; HasNoFault = IsFaultless f; fault = fault_in f; text = text; front = lines }

-- a file of the format, what it comes to, and the line of the first fault of what is none
abbrev pub conversion : {S I : Type 0} → Grammar S I → MemoryUse → (List ℕ → List ℕ → Type 0) → Conversion
conversion f memory comes_to = record {
  IsInput = IsWhole f;
  HasNoFault = IsFaultless f;
  fault = fault_in f;
  ComesTo = comes_to;
  refusal = line_of_fault;
  memory = memory;
}

-- the last line: this one, or the line of the first fault
abbrev pub last_text : Option FormatFault → List ℕ → List ℕ
last_text None end = end
last_text (Some fault) end = line_of_fault fault

-- the lines of a list of octets, and its text, which has the last line behind them: the line of the first fault, or
-- this end of the items of a file; octets that mean the same have the same lines
pub record IsLined {S I : Type 0} (f : Grammar S I) (text lines : List ℕ → List ℕ) (end_of : List I → List ℕ) : Type 0 where
  pub text_is : (octets : List ℕ)
      → lines octets ++ last_text (fault_in f octets) (end_of (meaning f f.start 0 octets).items) ≡ text octets
  pub same : (a b : List ℕ) → meaning f f.start 0 a ≡ meaning f f.start 0 b → lines a ≡ lines b

-- the lines of octets where they are made of the items, and the text with them
abbrev pub lines_by : {S I : Type 0} → Grammar S I → (List I → List ℕ) → List ℕ → List ℕ
lines_by f lines_of octets = lines_of (meaning f f.start 0 octets).items

-- the text of octets whose lines and whose end are made of the items
abbrev pub text_by : {S I : Type 0} → Grammar S I → (List I → List ℕ) → (List I → List ℕ) → List ℕ → List ℕ
text_by f lines_of end_of octets =
    lines_by f lines_of octets ++ last_text (fault_in f octets) (end_of (meaning f f.start 0 octets).items)
