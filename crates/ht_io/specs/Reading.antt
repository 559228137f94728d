-- What is seen of a source in memory.
use Rattle.std.specs.Prelude.{◌≡◌, ◌⊎◌, ◌+◌, ◌≤◌, ℕ, List, [], ◌∷◌, ◌++◌, Some, All, Contains, nat_eq, if◌then◌else◌}
use Rattle.std.specs.List.{before_first, after_first, list_any}
use Rattle.ht_io.specs.Devices.{Device}

-- the octets left, the offset of the first of them, and where no read passes: at cuts, and at failing offsets, which fail once for each entry
pub record Reading : Type 0 where
  pub left : List ℕ
  pub at : ℕ
  pub cuts : List ℕ
  pub failing : List ℕ
  pub faults : ℕ

-- the source as a device: its octets are known
abbrev pub device_of_reading : Reading → Device ℕ
device_of_reading source = record { known = Some source.left; faults = source.faults; borrow = 0 }

-- the list without its first entry that is x: what stands before it, and what stands after it
abbrev pub without_first : ℕ → List ℕ → List ℕ
without_first x xs = before_first (λ y. nat_eq y x) xs ++ after_first (λ y. nat_eq y x) xs

-- no stop lies behind the first and before the last of the offsets that a read goes over
abbrev pub PassesNone : List ℕ → ℕ → ℕ → Type 0
PassesNone stops at count = All (λ stop. (stop ≤ at) ⊎ (at + count ≤ stop)) stops

-- a read takes all that it has room for, or ends at a stop
abbrev pub IsFull : List ℕ → ℕ → ℕ → ℕ → Type 0
IsFull stops at room count = (count ≡ room) ⊎ Contains stops (at + count)

-- the octets from an offset up to the next stop behind it
abbrev pub up_to_stop : List ℕ → ℕ → List ℕ → List ℕ
up_to_stop stops at [] = []
up_to_stop stops at (x ∷ xs) = x ∷ (if list_any (nat_eq (at + 1)) stops then [] else up_to_stop stops (at + 1) xs)

-- the octets that the next read gives, if it has room for all: none where it fails
abbrev pub ready_of : List ℕ → List ℕ → ℕ → List ℕ → List ℕ
ready_of cuts failing at octets = if list_any (nat_eq at) failing then [] else up_to_stop (cuts ++ failing) at octets

-- the octets at hand
abbrev pub hand_of_reading : Reading → List ℕ
hand_of_reading source = ready_of source.cuts source.failing source.at source.left
