-- What a call does that gives octets to a sink by way of others that wait.
use Rattle.std.specs.Prelude.{◌≡◌, ℕ, List, ◌++◌, Result, Ok, Err}
use Rattle.ht_io.specs.Devices.{Device, Grows, GrowsByPart, IsLater, Rose}
use Rattle.ht_runs.specs.declared.faults.RunFault.{RunFault}
use Rattle.ht_runs.specs.declared.faults.RunFault.TheVariants.{Format, Read, Write, NoMemory}

-- the sink failed, or memory ran out and the sink didn't fail
abbrev pub IsCause : Device ℕ → Device ℕ → RunFault → Type 0
IsCause sink sink' (Format fault) = ⊥
IsCause sink sink' Read = ⊥
IsCause sink sink' Write = Rose sink sink'
IsCause sink sink' NoMemory = sink'.faults ≡ sink.faults

-- the octets that waited, the sink before and after, and the octets that were given
module _ (waits : List ℕ) (sink sink' : Device ℕ) (given : List ℕ) where
  -- a front of them was put, and the others wait
  pub record PutsThrough (waits' : List ℕ) : Type 0 where
    pub front : List ℕ
    pub put : Grows sink sink' front
    pub all : waits ++ given ≡ front ++ waits'
    pub steady : sink'.faults ≡ sink.faults
    pub later : IsLater sink sink'

  -- a part of them from their front was put
  pub record Breaks (fault : RunFault) : Type 0 where
    pub part : GrowsByPart sink sink' (waits ++ given)
    pub cause : IsCause sink sink' fault
    pub later : IsLater sink sink'

  abbrev pub Writes : List ℕ → Result (Unit {0}) RunFault → Type 0
  Writes waits' (Ok done) = PutsThrough waits'
  Writes waits' (Err fault) = Breaks fault

-- a front of the whole was given, and this of it is left
abbrev pub PutsFrontThrough : List ℕ → Device ℕ → Device ℕ → List ℕ → List ℕ → List ℕ → Type 0
PutsFrontThrough waits sink sink' left whole waits' = (done : List ℕ) × PutsThrough waits sink sink' done waits' × (done ++ left ≡ whole)
