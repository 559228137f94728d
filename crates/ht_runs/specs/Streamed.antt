-- What a call over one source and one sink promises that puts text while it reads, all of its text but a refused line.
use Rattle.std.specs.Prelude.{◌≡◌, ℕ, ◌<◌, List, ◌++◌, length, take, Some, IfSome, Result, Ok, Err}
use Rattle.ht_io.specs.Devices.{Device, Takes, TakesAll, Grows, GrowsByPart, Rose}
use Rattle.ht_io.specs.Kinds.{name_of}
use Rattle.ht_io.specs.declared.faults.FormatFault.{FormatFault}
use Rattle.ht_text.specs.Lines.{refused_text}
use Rattle.ht_runs.specs.declared.faults.RunFault.{RunFault}
use Rattle.ht_runs.specs.declared.faults.RunFault.TheVariants.{Format, Read, Write, NoMemory}
use Rattle.ht_runs.specs.Filters.{Filter, unrefused}

-- a part of this text of the octets that were taken was put
pub record PutsPart (text_of : List ℕ → List ℕ) (source source' sink sink' : Device ℕ) : Type 0 where
  pub taken : List ℕ
  pub octets : Takes source source' taken
  pub text : GrowsByPart sink sink' (text_of taken)
  pub of_all : IfSome source.known (λ all. GrowsByPart sink sink' (text_of all))

-- a run that reads and writes so: the source and the sink before it and after it
module _ (f : Filter) (source source' sink sink' : Device ℕ) where
  -- what was left of the source is its whole input, all of it was taken, and its text was put
  pub record FinishesRun : Type 0 where
    pub taken : List ℕ
    pub octets : TakesAll source source' taken
    pub input : f.IsInput taken
    pub text : Grows sink sink' (f.text taken)

  -- What was left is no such input, and its text was put but for the line of its first fault. The octets taken end with
  -- the field at fault: they have this fault, and no shorter front of them has one; so of an input that ends early all
  -- were taken, and an octet behind a whole input is the last one taken.
  pub record StopsAtFault (fault : FormatFault) : Type 0 where
    pub taken : List ℕ
    pub octets : Takes source source' taken
    pub refused : f.fault taken ≡ Some fault
    pub ends : (n : ℕ) → n < length taken → f.HasNoFault (take n taken)
    pub front : Grows sink sink' (f.front taken)
    pub no_input : IfSome source.known (λ all. f.IsInput all → ⊥)
    pub same_fault : IfSome source.known (λ all. f.fault all ≡ Some fault)
    pub same_front : IfSome source.known (λ all. f.front all ≡ f.front taken)

  -- the source failed; the octets taken before have no fault, and the text of such a front was put
  pub record BreaksOff : Type 0 where
    pub taken : List ℕ
    pub octets : Takes source source' taken
    pub front : f.HasNoFault taken
    pub text : Grows sink sink' (f.front taken)
    pub cause : Rose source source'

  -- why such a call didn't put its whole text
  abbrev pub StreamFails : RunFault → Type 0
  StreamFails (Format fault) = StopsAtFault fault
  StreamFails Read = BreaksOff
  StreamFails Write = PutsPart (unrefused f) source source' sink sink' × Rose sink sink'
  StreamFails NoMemory = PutsPart f.front source source' sink sink'

  -- what such a call answers; a good answer says this of the octets, all of which were taken
  abbrev pub Streamed : {A : Type 0} → (A → List ℕ → Type 0) → Result A RunFault → Type 0
  Streamed Says (Ok answer) = (run : FinishesRun) × Says answer run.taken
  Streamed Says (Err fault) = StreamFails fault

-- the line of a fault
abbrev pub line_of_fault : FormatFault → List ℕ
line_of_fault fault = refused_text (name_of fault.kind) fault.offset

-- the text of octets with a fault has the line of the fault behind its front
abbrev pub EndsWithItsFault : Filter → Type 0
EndsWithItsFault f = (octets : List ℕ) (fault : FormatFault) → f.fault octets ≡ Some fault → f.front octets ++ line_of_fault fault ≡ f.text octets
