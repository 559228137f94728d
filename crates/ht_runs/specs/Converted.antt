-- What a call over one source and one sink promises that reads its input to its end, and then puts its output.
use Rattle.std.specs.Prelude.{◌≡◌, ◌⊎◌, ℕ, List, Some, IfSome, Result, Ok, Err}
use Rattle.ht_io.specs.Devices.{Device, Takes, TakesAll, Grows, GrowsByPart, Rose}
use Rattle.ht_io.specs.declared.faults.FormatFault.{FormatFault}
use Rattle.ht_runs.specs.declared.faults.RunFault.{RunFault}
use Rattle.ht_runs.specs.declared.faults.RunFault.TheVariants.{Format, Read, Write, NoMemory}
use Rattle.ht_runs.specs.Filters.{Conversion, MemoryUse, BeforeOutput, WithinOutput}

-- a run that converts so: the source and the sink before it and after it
module _ (f : Conversion) (source source' sink sink' : Device ℕ) where
  -- what was left of the source is its whole input, all of it was taken, and of its output this was put
  pub record TakesWhole (Puts : List ℕ → Type 0) : Type 0 where
    pub taken : List ℕ
    pub output : List ℕ
    pub octets : TakesAll source source' taken
    pub input : f.IsInput taken
    pub comes : f.ComesTo taken output
    pub put : Puts output

  -- all of it was put, or a part
  abbrev pub PutsOutput : Type 0
  PutsOutput = TakesWhole (Grows sink sink')

  -- a part of it was put, from its front
  abbrev pub PutsPartOfOutput : Type 0
  PutsPartOfOutput = TakesWhole (GrowsByPart sink sink')

  -- what was left is no such input, and nothing was put
  pub record FindsFault (fault : FormatFault) : Type 0 where
    pub taken : List ℕ
    pub octets : Takes source source' taken
    pub refused : f.fault taken ≡ Some fault
    pub no_input : IfSome source.known (λ all. f.IsInput all → ⊥)
    pub same_fault : IfSome source.known (λ all. f.fault all ≡ Some fault)
    pub nothing : sink' ≡ sink

  -- the source failed; the octets taken before have no fault, and nothing was put
  pub record LeavesOff : Type 0 where
    pub taken : List ℕ
    pub octets : Takes source source' taken
    pub front : f.HasNoFault taken
    pub cause : Rose source source'
    pub nothing : sink' ≡ sink

  -- what was put where memory ran out
  abbrev pub LacksMemory : MemoryUse → Type 0
  LacksMemory BeforeOutput = sink' ≡ sink
  LacksMemory WithinOutput = (sink' ≡ sink) ⊎ PutsPartOfOutput

  -- why such a call didn't put its whole output
  abbrev pub ConversionFails : RunFault → Type 0
  ConversionFails (Format fault) = FindsFault fault
  ConversionFails Read = LeavesOff
  ConversionFails Write = PutsPartOfOutput × Rose sink sink'
  ConversionFails NoMemory = LacksMemory f.memory

  -- what such a call answers; a good answer says this of the octets, all of which were taken
  abbrev pub Converted : {A : Type 0} → (A → List ℕ → Type 0) → Result A RunFault → Type 0
  Converted Says (Ok answer) = (run : PutsOutput) × Says answer run.taken
  Converted Says (Err fault) = ConversionFails fault
