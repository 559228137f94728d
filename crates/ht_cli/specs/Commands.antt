-- What a command reads and writes, and what each answer of its run says.
use Rattle.std.specs.Prelude.{◌≡◌, ◌⊎◌, ℕ, ◌<◌, List, length, take, Some, IfSome}
use Rattle.ht_io.specs.Devices.{Device, Takes, Grows, GrowsByPart, Rose}
use Rattle.ht_io.specs.declared.faults.FormatFault.{FormatFault}
use Rattle.ht_runs.specs.Converted.{LacksMemory, LeavesOff, PutsOutput}
use Rattle.ht_runs.specs.Filters.{Conversion, Filter}
use Rattle.ht_runs.specs.Streamed.{BreaksOff, FinishesRun, PutsPart}
use Rattle.ht_cli.specs.declared.status.Status.{Status}
use Rattle.ht_cli.specs.declared.status.Status.TheVariants.{Done, Refused, Usage, ReadFault, WriteFault, NoMemory}

-- a command writes while it reads its input, or once it has read it, or it reads nothing and writes a text of this kind
pub data Command : Type 1 where
  Reads : Filter → Command
  Converts : Conversion → Command
  Makes : (List ℕ → Type 0) → Command

-- a run of a command that reads: the source and the sink before it and after it
module _ (f : Filter) (source source' sink sink' : Device ℕ) where
  -- What was left is no such input, and its text was put, which names its first fault. The octets taken end with the
  -- field at fault: they have this fault, and no shorter front of them has one; so of an input that ends early all were
  -- taken, and an octet behind a whole input is the last one taken.
  pub record RefusesRun : Type 0 where
    pub taken : List ℕ
    pub fault : FormatFault
    pub octets : Takes source source' taken
    pub refused : f.fault taken ≡ Some fault
    pub ends : (n : ℕ) → n < length taken → f.HasNoFault (take n taken)
    pub text : Grows sink sink' (f.text taken)
    pub no_input : IfSome source.known (λ all. f.IsInput all → ⊥)
    pub same_fault : IfSome source.known (λ all. f.fault all ≡ Some fault)
    pub same_text : IfSome source.known (λ all. f.text all ≡ f.text taken)

-- this is what is written of the octets: their output where they are a whole input, else the line of their first fault
abbrev pub IsWritten : Conversion → List ℕ → List ℕ → Type 0
IsWritten f octets text =
    (f.IsInput octets × f.ComesTo octets text) ⊎ ((fault : FormatFault) × (f.fault octets ≡ Some fault) × (text ≡ f.refusal fault))

-- a run of a command that reads its input to its end: the source and the sink before it and after it
module _ (f : Conversion) (source source' sink sink' : Device ℕ) where
  -- what was left is no such input, and the line of its first fault was put
  pub record NotConverted : Type 0 where
    pub taken : List ℕ
    pub fault : FormatFault
    pub octets : Takes source source' taken
    pub refused : f.fault taken ≡ Some fault
    pub line : Grows sink sink' (f.refusal fault)
    pub no_input : IfSome source.known (λ all. f.IsInput all → ⊥)
    pub same_fault : IfSome source.known (λ all. f.fault all ≡ Some fault)

  -- a part of what is written of the octets that were taken was put
  pub record WritesPart : Type 0 where
    pub taken : List ℕ
    pub text : List ℕ
    pub octets : Takes source source' taken
    pub written : IsWritten f taken text
    pub of_all : IfSome source.known (λ all. IsWritten f all text)
    pub put : GrowsByPart sink sink' text

-- a run of a command that reads nothing and writes a text of this kind: the sink before it and after it
module _ (IsText : List ℕ → Type 0) (sink sink' : Device ℕ) where
  -- such a text was put
  pub record MakesText : Type 0 where
    pub text : List ℕ
    pub made : IsText text
    pub put : Grows sink sink' text

  -- a part of such a text was put
  pub record MakesPart : Type 0 where
    pub text : List ℕ
    pub made : IsText text
    pub put : GrowsByPart sink sink' text

-- what each status says of a run: first the source before and after it, then the sink
abbrev pub Answers : Command → Device ℕ → Device ℕ → Device ℕ → Device ℕ → Status → Type 0
Answers (Reads f) source source' sink sink' Done = FinishesRun f source source' sink sink'
Answers (Reads f) source source' sink sink' Refused = RefusesRun f source source' sink sink'
Answers (Reads f) source source' sink sink' Usage = ⊥
Answers (Reads f) source source' sink sink' ReadFault = BreaksOff f source source' sink sink'
Answers (Reads f) source source' sink sink' WriteFault = PutsPart f.text source source' sink sink' × Rose sink sink'
Answers (Reads f) source source' sink sink' NoMemory = PutsPart f.front source source' sink sink'
Answers (Converts f) source source' sink sink' Done = PutsOutput f source source' sink sink'
Answers (Converts f) source source' sink sink' Refused = NotConverted f source source' sink sink'
Answers (Converts f) source source' sink sink' Usage = ⊥
Answers (Converts f) source source' sink sink' ReadFault = LeavesOff f source source' sink sink'
Answers (Converts f) source source' sink sink' WriteFault = WritesPart f source source' sink sink' × Rose sink sink'
Answers (Converts f) source source' sink sink' NoMemory = LacksMemory f source source' sink sink' f.memory
Answers (Makes IsText) source source' sink sink' Done = MakesText IsText sink sink'
Answers (Makes IsText) source source' sink sink' Refused = ⊥
Answers (Makes IsText) source source' sink sink' Usage = ⊥
Answers (Makes IsText) source source' sink sink' ReadFault = ⊥
Answers (Makes IsText) source source' sink sink' WriteFault = MakesPart IsText sink sink' × Rose sink sink'
Answers (Makes IsText) source source' sink sink' NoMemory = sink' ≡ sink

-- what each status says where the words ask for no command, and this text tells how the program is called
abbrev pub Rejects : List ℕ → Device ℕ → Device ℕ → Status → Type 0
Rejects usage sink sink' Done = ⊥
Rejects usage sink sink' Refused = ⊥
Rejects usage sink sink' Usage = Grows sink sink' usage
Rejects usage sink sink' ReadFault = ⊥
Rejects usage sink sink' WriteFault = GrowsByPart sink sink' usage × Rose sink sink'
Rejects usage sink sink' NoMemory = sink' ≡ sink
