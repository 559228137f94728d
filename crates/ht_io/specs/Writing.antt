-- What is seen of a sink in memory.
use Rattle.std.specs.Prelude.{ℕ, zero, suc, ◌≤◌, Option, Some, None, List, [], ◌∷◌, min, nat_le, if◌then◌else◌}
use Rattle.std.specs.List.Sorted.{IsNonDecreasing}
use Rattle.ht_io.specs.Devices.{Device}

-- the octets held, how many there is room for, and the offsets that no put passes, each of which fails once
pub record Writing : Type 0 where
  pub held : List ℕ
  pub capacity : ℕ
  pub failing : List ℕ
  pub faults : ℕ

-- the sink as a device: its octets are known
abbrev pub device_of_writing : Writing → Device ℕ
device_of_writing sink = record { known = Some sink.held; faults = sink.faults; borrow = 0 }

-- how many octets may be held: up to the first failing offset, and no more than the capacity
abbrev pub nearest : List ℕ → ℕ → ℕ
nearest [] capacity = capacity
nearest (first ∷ rest) capacity = min first capacity

-- the failing offsets after a put that went as far as it may: the first is spent where it was reached
abbrev pub unspent : List ℕ → ℕ → List ℕ
unspent [] capacity = []
unspent (first ∷ rest) capacity = if nat_le first capacity then rest else first ∷ rest

-- the octets held are within the capacity, their memory is reserved, and no failing offset was passed
pub record IsWithin (count capacity reserved : ℕ) (failing : List ℕ) : Type 0 where
  pub has_room : capacity ≤ reserved
  pub ascends : IsNonDecreasing failing
  pub below : count ≤ nearest failing capacity

-- what is seen of a sink that grows: the octets held
pub record Growing : Type 0 where
  pub held : List ℕ
  pub faults : ℕ

-- the sink that grows as a device: its octets are known
abbrev pub device_of_growing : Growing → Device ℕ
device_of_growing sink = record { known = Some sink.held; faults = sink.faults; borrow = 0 }

-- what is seen of a sink that never fails: the octets that fitted, how many there is room for, and how many were dropped
pub record Fitting : Type 0 where
  pub fitted : List ℕ
  pub capacity : ℕ
  pub dropped : ℕ

-- the octets held are known while none was dropped
abbrev pub known_while_none : List ℕ → ℕ → Option (List ℕ)
known_while_none fitted zero = Some fitted
known_while_none fitted (suc dropped) = None

abbrev pub known_of : Fitting → Option (List ℕ)
known_of sink = known_while_none sink.fitted sink.dropped
