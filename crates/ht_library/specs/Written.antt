-- What calls promise that write a text or a file for an input in memory.
use Rattle.std.specs.Prelude.{◌≡◌, ◌≢◌, ◌⊎◌, ◌↔◌, ℕ, ◌<◌, ◌≤◌, List, ◌++◌, drop, length, Option, None, Some, Result, Ok, Err}
use Rattle.ht_io.specs.Kinds.{number_of}
use Rattle.ht_io.specs.declared.faults.FormatFault.{FormatFault}
use Rattle.ht_runs.specs.Filters.{Conversion, Filter}
use Rattle.ht_runs.specs.declared.faults.RunFault.{RunFault}
use Rattle.ht_runs.specs.declared.faults.RunFault.TheVariants.{Format, Read, Write, NoMemory}
use Rattle.ht_library.specs.declared.crossing.MizgaureRefusal.{MizgaureRefusal}

-- what is read, and what is written of it
pub record Making : Type 1 where
  -- the octets are its whole input
  pub IsInput : List ℕ → Type 0
  -- the first fault of the octets
  pub fault : List ℕ → Option FormatFault
  -- the octets, a whole input, come to this output
  pub ComesTo : List ℕ → List ℕ → Type 0

abbrev pub by_filter : Filter → Making
by_filter f = record { IsInput = f.IsInput; fault = f.fault; ComesTo = λ octets output. output ≡ f.text octets }

abbrev pub by_conversion : Conversion → Making
by_conversion f = record { IsInput = f.IsInput; fault = f.fault; ComesTo = f.ComesTo }

-- what a run over an input comes to: its whole output, or why there is none
abbrev pub Ran : Making → List ℕ → Result (List ℕ) RunFault → Type 0
Ran f input (Ok output) = f.IsInput input × f.ComesTo input output
Ran f input (Err (Format fault)) = f.fault input ≡ Some fault
Ran f input (Err Read) = Unit {0}
Ran f input (Err Write) = Unit {0}
Ran f input (Err NoMemory) = Unit {0}

-- what C has before a call and after it: the room for the output, its size, where the input is refused, and the answer
module _ (room room' : List ℕ) (size size' : ℕ) (refusal refusal' : MizgaureRefusal) (result : ℕ) where
  -- An output stands at the front of its room, and what is behind it is as it was; where it is too long, only its size is said.
  pub record PutsOutput (output : List ℕ) : Type 0 where
    pub ends : (result ≡ 0) ⊎ (result ≡ 7)
    pub fits : (result ≡ 0) ↔ (length output ≤ length room)
    pub size_is : size' ≡ length output
    pub put : result ≡ 0 → room' ≡ output ++ drop (length output) room
    pub kept : result ≡ 7 → room' ≡ room
    pub no_refusal : refusal' ≡ refusal

  -- the input's first fault, by the number of its kind and the offset of its field
  pub record SaysFault (fault : FormatFault) : Type 0 where
    pub refused : result ≡ 8
    pub kind : refusal'.kind ≡ number_of fault.kind
    pub offset : refusal'.offset ≡ fault.offset
    pub kept : room' ≡ room
    pub no_size : size' ≡ size

  -- memory ran out
  pub record SaysNoMemory : Type 0 where
    pub memory : result ≡ 1
    pub kept : room' ≡ room
    pub no_size : size' ≡ size
    pub no_refusal : refusal' ≡ refusal

  -- what a run comes to is handed over
  abbrev pub Handed : Result (List ℕ) RunFault → Type 0
  Handed (Ok output) = PutsOutput output
  Handed (Err (Format fault)) = SaysFault fault
  Handed (Err Read) = SaysNoMemory
  Handed (Err Write) = SaysNoMemory
  Handed (Err NoMemory) = SaysNoMemory

  -- A run over the input comes to something, and that is handed over. Memory may run out at any input, and then the answer is 1.
  -- Else the input alone decides: the output of a whole input fits or doesn't, and any other input is refused. At a fault the room is
  -- as it was, and its length never changes.
  pub record Answers (f : Making) (input : List ℕ) : Type 0 where
    pub comes : (run : Result (List ℕ) RunFault) × Ran f input run × Handed run
    pub fault : (result ≡ 0) ⊎ (result ≡ 1) ⊎ (result ≡ 7) ⊎ (result ≡ 8)
    pub done : (result ≡ 0) ↔ ((result ≢ 1) × f.IsInput input × (size' ≤ length room))
    pub no_room : (result ≡ 7) ↔ ((result ≢ 1) × f.IsInput input × (length room < size'))
    pub refused : (result ≡ 8) ↔ ((result ≢ 1) × (f.fault input ≢ None))
    pub kept : result ≢ 0 → room' ≡ room
    pub no_size : (result ≡ 1) ⊎ (result ≡ 8) → size' ≡ size
    pub no_refusal : result ≢ 8 → refusal' ≡ refusal
    pub long : length room' ≡ length room
