-- What a run reads of a source, and what it puts into a sink of it.
use Rattle.std.specs.Prelude.{ℕ, List, Option, None, Some}
use Rattle.ht_io.specs.declared.faults.FormatFault.{FormatFault}

-- what is read, and what is written of it while it is read
pub record Filter : Type 1 where
  -- the octets are its whole input
  pub IsInput : List ℕ → Type 0
  -- the octets have no fault so far
  pub HasNoFault : List ℕ → Type 0
  -- the first fault of the octets
  pub fault : List ℕ → Option FormatFault
  -- the reference text: all that is written of the octets
  pub text : List ℕ → List ℕ
  -- the text of octets whose end isn't known, and of octets with a fault before the line of their fault; of it a part
  -- stands where memory ran out
  pub front : List ℕ → List ℕ

-- when memory can run out: only before the output is put, or also while it is put
pub data MemoryUse : Type 0 where
  BeforeOutput : MemoryUse
  WithinOutput : MemoryUse

-- what is read to its end, and what is then written of it
pub record Conversion : Type 1 where
  -- the octets are its whole input
  pub IsInput : List ℕ → Type 0
  -- the octets have no fault so far
  pub HasNoFault : List ℕ → Type 0
  -- the first fault of the octets
  pub fault : List ℕ → Option FormatFault
  -- the octets, a whole input, come to this output
  pub ComesTo : List ℕ → List ℕ → Type 0
  -- what is written where this is the first fault
  pub refusal : FormatFault → List ℕ
  -- where memory runs out nothing was put, or at most a part of the output
  pub memory : MemoryUse

-- where there is a fault the one text, and else the other
abbrev pub where_faulty : Option FormatFault → List ℕ → List ℕ → List ℕ
where_faulty None faulty whole = whole
where_faulty (Some fault) faulty whole = faulty

-- the text of the octets but for the line of their fault
abbrev pub unrefused : Filter → List ℕ → List ℕ
unrefused f octets = where_faulty (f.fault octets) (f.front octets) (f.text octets)

-- a good answer that says no more than that it is good
abbrev pub SaysNothing : {A : Type 0} → A → List ℕ → Type 0
SaysNothing answer octets = Unit {0}
